-- The test of good tables and the record of their facts agree.
use Rattle.std.specs.Prelude.{◌≡◌, Bool, false, ◌&&◌, ℕ, ◌≤◌, leb, eqb}
use Rattle.std.proofs.Common.{sym, ◌∙◌, arith}
use Rattle.std.proofs.lemmas.Bool.{false≢true}
use Rattle.rows.specs.Definition.Lists.{at}
use Rattle.rows.specs.Definition.Sizes.{chain_length}
use Rattle.rows.specs.Definition.Tests.{list_test, class_test, chain_test, room_test, channel_test, user_test, device_test, default_test}
use Rattle.rows.specs.Laws.Says.{Says, says-le, says_eq, says-no, says-and, says_then, says-as}
use Rattle.rows.specs.Laws.Good.{list-says, class-says, room_says, chain-says, channel-says, user-says, device-says, default-says}
use Rattle.kernel.specs.Definition.Tables.{last_row}
use Rattle.kernel.specs.Definition.Line.{total_of, boundary_of}
use Rattle.kernel.specs.Definition.Good.{Sized, Good, good_test}
use Rattle.kernel.specs.declared.Tables.{Tables}

-- the counts are within the arrays
pub record Sizes (segments held opened : ℕ) : Type 0 where
  pub one : 1 ≤ segments
  pub most : segments ≤ 32
  pub holds : 1 ≤ held
  pub links : held ≤ 32
  pub rows : opened ≤ 32

abbrev sizes_test : (segments held opened : ℕ) → Bool
sizes_test segments held opened = leb 1 segments && leb segments 32 && leb 1 held && leb held 32 && leb opened 32

sizes-says : (segments held opened : ℕ) → Says (sizes_test segments held opened) (Sizes segments held opened)
sizes-says segments held opened =
    says-as
    (says-and (says-and (says-and (says-and (says-le 1 segments) (says-le segments 32)) (says-le 1 held)) (says-le held 32)) (says-le opened 32))
    (λ h. record { one = h.0.0.0.0; most = h.0.0.0.1; holds = h.0.0.1; links = h.0.1; rows = h.1 })
    (λ g. ((((g.one, g.most), g.holds), g.links), g.rows))

-- the test is true exactly for good tables
pub good-says : (t : Tables) → Sized t → Says (good_test t) (Good t)
unfolding good_test
good-says t s =
    says-as
    (says-and (says-and (says-and (says-and (says-and
    (says_then
    (says-and
    (says_then (list-says t.list t.segments) (λ p. class-says t.classes t.segments (omega (arith, p.least)) p.most))
    (room_says t.room t.cold))
    (λ p. chain-says t.classes t.chain t.held t.segments p.0.0.most))
    (channel-says t.channels t.opened t.known))
    (says_eq t.held (chain_length t.room (total_of t))))
    (user-says t.classes (last_row t) t.user (boundary_of t)))
    (device-says t.devices t.known))
    (default-says t.name t.length t.unit))
    (λ h. record {
      sized = s;
      list = h.0.0.0.0.0.0.0.0;
      classes = h.0.0.0.0.0.0.0.1;
      room = h.0.0.0.0.0.0.1;
      chain = h.0.0.0.0.0.1;
      channels = h.0.0.0.0.1;
      line = h.0.0.0.1;
      user = h.0.0.1;
      devices = h.0.1;
      default = h.1;
    })
    (λ g. ((((((((g.list, g.classes), g.room), g.chain), g.channels), g.line), g.user), g.devices), g.default))

-- good tables have their counts within the arrays
good-sizes : (t : Tables) → Good t → Sizes t.segments t.held t.opened
good-sizes t g =
    record { one = omega (arith, g.list.least); most = g.list.most; holds = g.chain.holds; links = g.chain.most; rows = g.channels.most }

-- what the code of the test computes: the counts are not within the arrays
pub good_no : (t : Tables) → Sized t → false ≡ sizes_test t.segments t.held t.opened → false ≡ good_test t
good_no t s n = sym (says-no (good-says t s) (λ g. false≢true (n ∙ (sizes-says t.segments t.held t.opened).make (good-sizes t g))))

-- the parts, from the counts as it widens them
pub good_made : (t : Tables) (segments held opened known last class total edge long : ℕ) (list classes room chain channels user devices default : Bool)
    → segments ≡ t.segments → held ≡ t.held → opened ≡ t.opened → known ≡ t.known → last ≡ last_row t → class ≡ at t.classes last → total ≡ total_of t → edge ≡ boundary_of t
    → list ≡ list_test t.list segments → classes ≡ class_test t.classes segments → room ≡ room_test t.room t.cold
    → chain ≡ chain_test t.classes t.chain held segments → channels ≡ channel_test t.channels opened known
    → long ≡ chain_length t.room total → user ≡ user_test class t.user edge → devices ≡ device_test t.devices known
    → default ≡ default_test t.name t.length t.unit
    → list && classes && room && chain && channels && eqb held long && user && devices && default ≡ good_test t
unfolding good_test
good_made t segments held opened known last class total edge long a b c d e g h i es eh eo ek pl pc pt pe pa pb pr pd pch pn pg ph pi =
    rw (pa, pb, pr, pd, pch, pn, pg, pc, pe, pl, pt, ph, pi, es, eh, eo, ek)
