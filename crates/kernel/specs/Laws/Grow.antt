-- The chain grows: one further segment keeps a body, and so do several.
use Rattle.std.specs.Prelude.{◌≡◌, refl, Option, Some, None, ℕ, zero, suc, ◌+◌, ◌-◌, ◌≤◌, ◌<◌, get_or, take, set}
use Rattle.std.proofs.Common.{◌∙◌, arith, length-set, length-take, get_or-set_same, get_or-set_other, get_or-take}
use Rattle.std.proofs.Math.Decide.{dec_lt}
use Rattle.std.proofs.Math.Seq.{take-set-lt}
use Rattle.rows.specs.Definition.Lists.{at, last_of, tally}
use Rattle.rows.specs.Definition.Classes.{FREE, SYSTEM}
use Rattle.rows.specs.Definition.Good.{ClassesGood, ChainGood}
use Rattle.rows.specs.Laws.Counts.{one-yes, tally-part, tally-set, Found, last_found}
use Rattle.rows.specs.Laws.ChainRows.{more-classes, more-chain}
use Rattle.kernel.specs.Definition.Tables.{count_of}
use Rattle.kernel.specs.Definition.Line.{taking, one_more, grown}
use Rattle.kernel.specs.Laws.Body.{Shares, Body, body-counted, body-segments, Keeps, keeps-all, keeps_on}
use Rattle.kernel.specs.declared.Tables.{Tables}

-- the tables u have one further segment in the chain than t
pub record More (t u : Tables) : Type 0 where
  pub body : Body u
  pub apart : Shares u → ⊥
  pub free : count_of FREE t ≡ count_of FREE u + 1
  pub held : u.held ≡ t.held + 1

-- where one is free and nothing is shared
pub more : (t : Tables) → Body t → (Shares t → ⊥) → 1 ≤ count_of FREE t → More t (one_more t)
unfolding one_more
more t b a h =
    let n = t.segments in
    let cs = t.classes in
    let f : Found FREE cs = last_found FREE cs (omega (arith, tally-part FREE n cs)) in
    let row = f.place in
    let within : row < 32 = omega (arith, f.within, b.sized.classes) in
    let hb : t.held < 32 = omega (arith, body-counted t b, b.list.most) in
    let k : ClassesGood n (set cs row SYSTEM) =
    more-classes n cs t.chain t.held row b.sized.classes b.sized.chain b.list.most hb f.here within b.classes b.chain in
    let c : ChainGood n (set cs row SYSTEM) (set t.chain t.held row) (t.held + 1) =
    more-chain n cs t.chain t.held row b.sized.classes b.sized.chain b.list.most hb f.here within b.classes b.chain a in
    let z : t.held + 1 - 1 ≡ t.held = omega arith in
    let known : row < n = elim (dec_lt row n) [ yes q ↦ q | no q ↦ absurd (omega (arith, b.classes.rest row (omega arith) within, f.here)) ] in
    let last : at (set cs row SYSTEM) (at (set t.chain t.held row) (t.held + 1 - 1)) ≡ SYSTEM =
    rw (z, get_or-set_same t.chain t.held row 0 (omega (arith, b.sized.chain))) (get_or-set_same cs row SYSTEM 0 f.within) in
    let count : tally FREE (take n cs) ≡ tally FREE (take n (set cs row SYSTEM)) + 1 =
    rw (take-set-lt n cs row SYSTEM known)
    (omega (
      arith,
      tally-set FREE (take n cs) row SYSTEM (omega (arith, length-take n cs, b.sized.classes, b.list.most)),
      one-yes FREE (get_or (take n cs) row 0) (get_or-take n cs row 0 known ∙ f.here),
    )) in
    rw f.is (record {
      body = body-segments t (set cs row SYSTEM) (t.held + 1) (set t.chain t.held row) t.user (length-set cs row SYSTEM ∙ b.sized.classes)
          (length-set t.chain t.held row ∙ b.sized.chain) k c (λ _. b.none a) b;
      apart = λ q. omega (arith, last);
      free = count;
      held = refl;
    })

pub grown-body : (k : ℕ) (t : Tables) → Body t → (Shares t → ⊥) → k ≤ count_of FREE t → Body (grown k t)
unfolding grown
grown-body zero t b a h = b
grown-body (suc k) t b a h = let m = more t b a (omega arith) in grown-body k (one_more t) m.body m.apart (omega (arith, m.free))

-- by as many segments as there are
pub grown-held : (k : ℕ) (t : Tables) → Body t → (Shares t → ⊥) → k ≤ count_of FREE t → (grown k t).held ≡ t.held + k
unfolding grown
grown-held zero t b a h = omega arith
grown-held (suc k) t b a h = let m = more t b a (omega arith) in omega (arith, m.held, grown-held k (one_more t) m.body m.apart (omega (arith, m.free)))

-- what else the tables have when the chain has grown
pub record Grown (t u : Tables) : Type 0 where
  pub keeps : Keeps t u
  pub user : u.user ≡ t.user
  pub chain : (i : ℕ) → i < t.held → at u.chain i ≡ at t.chain i

taking-rest : (t u : Tables) (found : Option ℕ) → Grown (taking t found) u → Grown t u
taking-rest t u (Some row) r =
    record {
      keeps = keeps_on _ _ _ _ r.keeps;
      user = r.user;
      chain = λ i h. r.chain i (omega arith) ∙ get_or-set_other t.chain t.held i _ 0 (λ e. omega arith);
    }
taking-rest t u None r = r

pub grown-rest : (k : ℕ) (t : Tables) → Grown t (grown k t)
unfolding grown one_more
grown-rest zero t = record { keeps = keeps-all t; user = refl; chain = λ i h. refl }
grown-rest (suc k) t = taking-rest t (grown k (one_more t)) (last_of FREE t.classes) (grown-rest k (one_more t))
