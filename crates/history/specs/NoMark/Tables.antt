-- "gives back the same tables": the row that an open put and the segments that it took, given back by the close.
use Rattle.std.specs.Prelude.{◌≡◌, refl, Bool, true, false, List, [], ◌∷◌, ◌++◌, ℕ, zero, suc, ◌+◌, ◌-◌, ◌≤◌, ◌<◌, length, get_or, set, Option, Some, None}
use Rattle.std.proofs.Common.{sym, ap, ◌∙◌, suc-le-suc, not-suc-le-zero, le_of_suc-le-suc, arith, get_or-set_same, set-set}
use Rattle.std.proofs.lemmas.List.{set-get_or}
use Rattle.rows.specs.Definition.Lists.{last_of, without}
use Rattle.rows.specs.Definition.Classes.{FREE, SYSTEM}
use Rattle.rows.specs.Definition.Channels.{zero_channel}
use Rattle.rows.specs.Definition.Sizes.{chain_length}
use Rattle.rows.specs.Laws.Counts.{tally-part, Found, last_found}
use Rattle.rows.specs.Laws.Sizes.{chain-most}
use Rattle.rows.specs.declared.Channel.{Channel}
use Rattle.kernel.specs.Definition.Tables.{count_of, sharing, with_segments, with_channels}
use Rattle.kernel.specs.Definition.Line.{total_of, taking, one_more, grown, one_less, shrunk, room_for, opening, closing}
use Rattle.kernel.specs.Definition.Good.{Good}
use Rattle.kernel.specs.Within.{spare}
use Rattle.kernel.specs.Laws.Body.{Shares, Body, body, body-counted, keeps-total}
use Rattle.kernel.specs.Laws.Facts.{no-shorter}
use Rattle.kernel.specs.Laws.Grow.{more, grown-held, grown-rest}
use Rattle.kernel.specs.Laws.Room.{shares-no, room-in-bytes}
use Rattle.kernel.specs.declared.Tables.{Tables}

-- ---- the chain

same-segments : (t : Tables) (classes : List ℕ) (held : ℕ) (chain : List ℕ) (user : ℕ)
    → classes ≡ t.classes → held ≡ t.held → chain ≡ t.chain → user ≡ t.user → with_segments t classes held chain user ≡ t
same-segments t classes held chain user a b c d = rw (a, b, c, d)

-- an entry set, and set to what it was
set_back : (xs : List ℕ) (i x y : ℕ) → get_or xs i 0 ≡ y → set (set xs i x) i y ≡ xs
set_back xs i x y e = set-set xs i x y ∙ rw (← e) (set-get_or xs i 0)

-- the segment last taken is given up, and all is as it was
less-more : (t : Tables) → Body t → (Shares t → ⊥) → 1 ≤ count_of FREE t → one_less (one_more t) ≡ t
unfolding one_more one_less
less-more t b a h =
    let cs = t.classes in
    let f : Found FREE cs = last_found FREE cs (omega (arith, tally-part FREE t.segments cs)) in
    let row = f.place in
    let z : t.held + 1 - 1 ≡ t.held = omega arith in
    let hb : t.held < 32 = omega (arith, body-counted t b, b.list.most) in
    let r : get_or (set t.chain t.held row) t.held 0 ≡ row = get_or-set_same t.chain t.held row 0 (omega (arith, b.sized.chain)) in
    let w : get_or (set cs row SYSTEM) row 0 ≡ SYSTEM = get_or-set_same cs row SYSTEM 0 f.within in
    rw (f.is, z, r, w)
    (same-segments t _ _ _ _ (set_back cs row SYSTEM FREE f.here) refl
    (set_back t.chain t.held row 0 (b.chain.rest t.held (omega arith) hb)) refl)

-- the last of several steps
shrunk-last : (k : ℕ) (t : Tables) → shrunk (suc k) t ≡ one_less (shrunk k t)
unfolding shrunk
shrunk-last zero t = refl
shrunk-last (suc k) t = shrunk-last k (one_less t)

shrunk-grown : (k : ℕ) (t : Tables) → Body t → (Shares t → ⊥) → k ≤ count_of FREE t → shrunk k (grown k t) ≡ t
unfolding shrunk grown
shrunk-grown zero t b a h = refl
shrunk-grown (suc k) t b a h =
    let m = more t b a (omega arith) in
    shrunk-last k (grown (suc k) t)
    ∙ ap one_less (shrunk-grown k (one_more t) m.body m.apart (omega (arith, m.free)))
    ∙ less-more t b a (omega arith)

-- by how many segments the room rule lets the chain grow: by none where one is shared, and by no more than are free
pub data Growth (t : Tables) (k : ℕ) : Type 0 where
  none : k ≡ 0 → Growth t k
  some : sharing t ≡ false → k ≤ count_of FREE t → Growth t k

growth-by : (t : Tables) (n : ℕ) → Good t → total_of t ≤ n → room_for t t.room n ≡ true → (shared : Bool) → sharing t ≡ shared → Growth t (chain_length t.room n - t.held)
growth-by t n g long fits true s =
    let b = body t g in
    let h = (room-in-bytes t b t.room n (no-shorter t g t.room n (omega arith) long)).yes fits in
    let zero-spare : spare t ≡ 0 = rw s in
    let m = chain-most t.room n (t.held - 1) (omega arith) in
    none (omega (arith, b.chain.holds))
growth-by t n g long fits false s =
    let b = body t g in
    let h = (room-in-bytes t b t.room n (no-shorter t g t.room n (omega arith) long)).yes fits in
    let free : spare t ≡ count_of FREE t = rw s in
    let m = chain-most t.room n (t.held - 1 + count_of FREE t) (omega arith) in
    some s (omega (arith, b.chain.holds))

pub growth : (t : Tables) (c : Channel) → Good t → room_for t t.room (total_of t + (16 + c.n)) ≡ true
    → Growth t (chain_length t.room (total_of t + (16 + c.n)) - t.held)
growth t c g fits = growth-by t (total_of t + (16 + c.n)) g (omega arith) fits (sharing t) refl

-- a chain that grew by k segments, and gave them up again
record Back (k : ℕ) (t : Tables) : Type 0 where
  back : shrunk k (grown k t) ≡ t
  held : (grown k t).held ≡ t.held + k

grown-back : {t : Tables} {k : ℕ} → Good t → Growth t k → Back k t
unfolding shrunk grown
grown-back g (none z) = rw z (record { back = refl; held = omega arith })
grown-back {t} {k} g (some s few) =
    let b = body t g in
    let apart = shares-no t b s in
    record { back = shrunk-grown k t b apart few; held = grown-held k t b apart few }

-- ---- the rows of channels

-- they change beside the chain
taking-beside : (t : Tables) (found : Option ℕ) (opened : ℕ) (channels : List Channel)
    → with_channels (taking t found) opened channels ≡ taking (with_channels t opened channels) found
taking-beside t (Some row) opened channels = refl
taking-beside t None opened channels = refl

pub grown-beside : (k : ℕ) (t : Tables) (opened : ℕ) (channels : List Channel) → with_channels (grown k t) opened channels ≡ grown k (with_channels t opened channels)
unfolding grown one_more
grown-beside zero t opened channels = refl
grown-beside (suc k) t opened channels =
    grown-beside k (one_more t) opened channels ∙ ap (grown k) (taking-beside t (last_of FREE t.classes) opened channels)

same-channels : (t : Tables) (opened : ℕ) (channels : List Channel) → opened ≡ t.opened → channels ≡ t.channels → with_channels t opened channels ≡ t
same-channels t opened channels a b = rw (a, b)

-- a row put behind the used ones, where all are z, and taken out again
module _ {A : Type 0} (z : A) where
  all_same : (xs : List A) → ((j : ℕ) → j < length xs → get_or xs j z ≡ z) → xs ++ (z ∷ []) ≡ z ∷ xs
  all_same [] all = refl
  all_same (x ∷ xs) all =
      let e : x ≡ z = all 0 (omega arith) in
      rw (all_same xs (λ j h. all (suc j) (suc-le-suc h)), e)

  row_back : (i : ℕ) (xs : List A) (x : A) → i < length xs → ((j : ℕ) → i ≤ j → j < length xs → get_or xs j z ≡ z) → without i (set xs i x) z ≡ xs
  row_back i [] x h rest = absurd (not-suc-le-zero h)
  row_back zero (y ∷ xs) x h rest =
      let e : y ≡ z = rest 0 (omega arith) h in
      all_same xs (λ j l. rest (suc j) (omega arith) (suc-le-suc l)) ∙ rw e
  row_back (suc i) (y ∷ xs) x h rest =
      ap (λ (l : List A). y ∷ l) (row_back i xs x (le_of_suc-le-suc h) (λ j a b. rest (suc j) (suc-le-suc a) (suc-le-suc b)))

-- ---- both

-- the chain of a close that finds the tables as they were, but for k segments more
cut-back : (t u : Tables) (k : ℕ) → Good t → u ≡ grown k t → Back k t → (held room : ℕ) → held ≡ t.held + k → room ≡ t.room
    → shrunk (held - chain_length room (total_of u)) u ≡ t
cut-back t u k g e b held room h r =
    let l = g.line in
    let total : total_of u ≡ total_of t = rw e (keeps-total (grown-rest k t).keeps) in
    let z : held - chain_length t.room (total_of t) ≡ k = omega arith in
    rw (r, total, z, e) b.back

pub open-close : (t : Tables) (c : Channel) → Good t → t.opened < 32 → room_for t t.room (total_of t + (16 + c.n)) ≡ true → closing (opening t c) t.opened ≡ t
unfolding opening closing
open-close t c g few fits =
    let k = chain_length t.room (total_of t + (16 + c.n)) - t.held in
    let cs = set t.channels t.opened c in
    let v = with_channels t (t.opened + 1) cs in
    let r = (grown-rest k v).keeps in
    let o : (grown k v).opened - 1 ≡ t.opened = omega (arith, r.opened) in
    let w : without t.opened (grown k v).channels zero_channel ≡ t.channels =
    rw r.channels
    (row_back zero_channel t.opened t.channels c (omega (arith, g.sized.channels))
    (λ j a h. g.channels.rest j a (omega (arith, g.sized.channels)))) in
    let same : with_channels (grown k v) ((grown k v).opened - 1) (without t.opened (grown k v).channels zero_channel) ≡ grown k t =
    grown-beside k v _ _ ∙ ap (grown k) (same-channels t _ _ o w) in
    let b = grown-back g (growth t c g fits) in
    let held : (grown k v).held ≡ t.held + k = sym (ap (λ (u : Tables). u.held) (grown-beside k t (t.opened + 1) cs)) ∙ b.held in
    cut-back t _ k g same b (grown k v).held (grown k v).room held r.room
