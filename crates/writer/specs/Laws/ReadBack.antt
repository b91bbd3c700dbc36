-- Writer and reader give each other back: the statements of Definition/ReadBack.antt, proved, and that both are one-to-one on what they accept.
use Rattle.std.specs.Prelude.{◌≡◌, refl, Bool, true, false, cond, ◌||◌, List, [], ◌∷◌, ◌++◌, ℕ, zero, suc, ◌+◌, ◌≤◌, ◌<◌, ltb, length, take, drop, replicate, Ok, Err}
use Rattle.std.proofs.Common.{sym, ap, ◌∙◌, append-nil, le_refl, arith, ltb-false, le-ltb, length-append, length-take, take_at, take-take, length-take-le}
use Rattle.std.proofs.lemmas.List.{length-replicate}
use Rattle.modules.specs.Definition.Bits.{O, bits_in}
use Rattle.modules.specs.Definition.Items.{end_bits, AllFit, all_bits, IsModule}
use Rattle.modules.specs.Definition.Reading.{looked_at, taken_of}
use Rattle.modules.specs.Definition.Counter.{Counts, page_size, counter}
use Rattle.modules.specs.Definition.Judging.{judged}
use Rattle.modules.specs.Definition.Faults.{FaultlessFrom}
use Rattle.modules.specs.Laws.Numbers.{bytes-length}
use Rattle.modules.specs.Laws.Unique.{one-module, whole-module, whole-faultless, module-items, module-read, module-whole}
use Rattle.modules.specs.declared.Item.{Item}
use Rattle.modules.specs.declared.Target.{Target}
use Rattle.rows.specs.Laws.Lists.{or_left, or_right}
use Rattle.writer.specs.Definition.Bytes.{padding_for, module_of, AllBytes}
use Rattle.writer.specs.Definition.Writing.{refuses_from, refuses_page, answer_to}
use Rattle.writer.specs.Definition.ReadBack.{ReadAs, ReadsBack, WrittenAs, AcceptedAsWritten, OneToOne}
use Rattle.writer.specs.Laws.Bytes.{module-bits, module-small, module-is}
use Rattle.writer.specs.Laws.Fits.{listed-fit, passed-faultless, faultless-passed, list-small, list-listed}
use Rattle.writer.specs.declared.Refusal.TheVariants.{Page, Range}

-- ---- what the writer makes is a module of its items

padding-less : (n : ℕ) → padding_for n < 8
padding-less n = omega arith

pub written-module : (items : List Item) (rest : List ℕ) → AllFit items → IsModule (module_of items ++ rest) items (length (module_of items))
written-module items rest fit = record {
  fit = fit;
  within = rw (length-append (module_of items) rest) (omega arith);
  padding = padding_for (length (all_bits items) + 3);
  less = padding-less (length (all_bits items) + 3);
  bits = ap bits_in (take_at (module_of items) rest (length (module_of items)) refl) ∙ module-bits items;
}

-- ---- what is done has passed

record Passed (page offset : ℕ) (items : List Item) (n : ℕ) : Type 0 where
  pub page-is : refuses_page page offset items ≡ false
  pub size_is : n ≡ length (module_of items)

done-passed : (page offset : ℕ) (items : List Item) (room n : ℕ) → answer_to page offset items room ≡ Ok n → Passed page offset items n
unfolding answer_to
done-passed page offset items room n e = go (refuses_page page offset items) (ltb room (length (module_of items))) refl e
  where
    go : (p s : Bool) → refuses_page page offset items ≡ p → cond p (Err Page) (cond s (Err Range) (Ok (length (module_of items)))) ≡ Ok n → Passed page offset items n
    go true s q w = record { page-is = cc; size_is = cc }
    go false true q w = record { page-is = cc; size_is = cc }
    go false false q w = record { page-is = q; size_is = cc }

passed-items : (page offset : ℕ) (items : List Item) → refuses_page page offset items ≡ false → refuses_from page (counter page offset) items ≡ false
unfolding refuses_page
passed-items page offset items e = or_right (ltb 3 page || ltb page_size offset) (refuses_from page (counter page offset) items) e

-- from a start within its range
pub done-counts : (page offset : ℕ) (items : List Item) (room n : ℕ) → answer_to page offset items room ≡ Ok n → Counts (counter page offset)
unfolding refuses_page
done-counts page offset items room n e =
    let start = or_left (ltb 3 page || ltb page_size offset) (refuses_from page (counter page offset) items) (done-passed page offset items room n e).page-is in
    record { page = ltb-false 3 page (or_left (ltb 3 page) (ltb page_size offset) start); offset = ltb-false page_size offset (or_right (ltb 3 page) (ltb page_size offset) start) }

-- and without fault where the whole segment is the user's
pub done-faultless : (g : Target) (offset : ℕ) (items : List Item) (room n : ℕ) → 0 < g.row → page_size ≤ g.reach → answer_to g.page offset items room ≡ Ok n
    → FaultlessFrom g (counter g.page offset) items
done-faultless g offset items room n row reach e =
    passed-faultless g (counter g.page offset) items row reach (passed-items g.page offset items (done-passed g.page offset items room n e).page-is)

-- ---- "Reading back gives the same items"

-- the loader looks at all of it
pub seen : (stream : List ℕ) (items : List Item) (n : ℕ) → IsModule stream items n → n ≤ 65535 → IsModule (looked_at stream) items n
seen stream items n m h = record {
  fit = m.fit;
  within = rw (length-take 65535 stream) (omega (arith, m.within));
  padding = m.padding;
  less = m.less;
  bits = rw (take-take n 65535 stream h) m.bits;
}

read_as : (stream : List ℕ) (page offset : ℕ) (items : List Item) (n : ℕ) → IsModule stream items n → refuses_from page (counter page offset) items ≡ false
    → ReadAs stream page offset items n
read_as stream page offset items n m p = record {
  are = m;
  no-others = λ others k o. one-module stream others items k n o m;
  read = module-read stream items n m;
  loader = λ h. module-items stream items n (seen stream items n m h);
  accepted = λ h g row reach e. module-whole g (counter page offset) stream items n (seen stream items n m h) (passed-faultless g (counter page offset) items row reach (rw e p));
}

pub reads-back : ReadsBack
reads-back page offset bytes buffer small items e n done =
    let p = done-passed page offset items (length buffer) n done in
    let q = passed-items page offset items p.page-is in
    let fit = listed-fit page (counter page offset) bytes items small e q in
    let m : IsModule (module_of items ++ drop n buffer) items n = rw p.size_is (written-module items (drop (length (module_of items)) buffer) fit) in
    rw (e, done) (read_as (module_of items ++ drop n buffer) page offset items n m q)

-- ---- "Every module the loader accepts is what the writer makes of its items"

small-take : (n : ℕ) (xs : List ℕ) → AllBytes xs → AllBytes (take n xs)
small-take zero xs small = tt
small-take (suc n) [] small = tt
small-take (suc n) (x ∷ xs) small = (small.0, small-take n xs small.1)

-- the bytes of a module are the writer's
module-written : (stream : List ℕ) (items : List Item) (b : ℕ) → AllBytes stream → IsModule stream items b → take b stream ≡ module_of items
module-written stream items b small m =
    let size = ap length m.bits ∙ length-append (all_bits items) (end_bits ++ replicate m.padding O) in
    let pad : m.padding ≡ padding_for (length (all_bits items) + 3) = omega (arith, size, bytes-length (take b stream), length-replicate m.padding O, m.less) in
    module-is items (take b stream) (small-take b stream small) (m.bits ∙ rw (← pad))

start-passed : (page offset : ℕ) → Counts (counter page offset) → ltb 3 page || ltb page_size offset ≡ false
start-passed page offset k = rw (le-ltb 3 page k.page, le-ltb page_size offset k.offset)

-- of a module without fault
pub module-as-written : (g : Target) (offset : ℕ) (stream : List ℕ) (items : List Item) (b : ℕ) → AllBytes stream → Counts (counter g.page offset) → IsModule (looked_at stream) items b
    → FaultlessFrom g (counter g.page offset) items → WrittenAs stream g.page offset items b
unfolding answer_to refuses_page
module-as-written g offset stream items b small start m l =
    let own = module-written (looked_at stream) items b (small-take 65535 stream small) m in
    let few : b ≤ 65535 = omega (arith, m.within, length-take 65535 stream) in
    let size : length (module_of items) ≡ b = sym (ap length own) ∙ length-take-le b (looked_at stream) m.within in
    record {
      small = list-small items m.fit;
      given = list-listed items m.fit;
      bytes = sym (take-take b 65535 stream few) ∙ own;
      takes = λ room h. rw (start-passed g.page offset start, faultless-passed g (counter g.page offset) items m.fit l, size, le-ltb room b h);
    }

pub accepted-as-written : AcceptedAsWritten
accepted-as-written g offset stream b small start e =
    module-as-written g offset stream (taken_of stream).items b small start (whole-module g (counter g.page offset) stream b e) (whole-faultless g (counter g.page offset) stream b e)

-- ---- one-to-one

written_once : (items others : List Item) → AllFit items → AllFit others → module_of items ≡ module_of others → items ≡ others
written_once items others f g e =
    let m = written-module items [] f in
    let k = written-module others [] g in
    (one-module (module_of items ++ []) items others (length (module_of items)) (length (module_of others)) m (rw e k)).0

module _ (g : Target) (offset : ℕ) (items : List Item) (fit : AllFit items) (few : length (module_of items) ≤ 65535) (n : ℕ) where
  own : IsModule (module_of items) items (length (module_of items))
  own = rw (append-nil (module_of items)) at (written-module items [] fit)

  taken-accepted : 0 < g.row → page_size ≤ g.reach → answer_to g.page offset items n ≡ Ok n → judged g (counter g.page offset) (module_of items) ≡ Ok n
  taken-accepted row reach e =
      let p = done-passed g.page offset items n n e in
      module-whole g (counter g.page offset) (module_of items) items n (rw p.size_is (seen (module_of items) items (length (module_of items)) own few))
      (done-faultless g offset items n n row reach e)

  accepted-taken : Counts (counter g.page offset) → judged g (counter g.page offset) (module_of items) ≡ Ok n → answer_to g.page offset items n ≡ Ok n
  accepted-taken start e =
      let same = module-items (module_of items) items (length (module_of items)) (seen (module_of items) items (length (module_of items)) own few) in
      let w = accepted-as-written g offset (module_of items) n (module-small items) start e in
      (rw same at w.takes) n (le_refl n)

pub one-to-one : OneToOne
one-to-one = record {
  same = λ g row reach offset start items fit few n. (taken-accepted g offset items fit few n row reach, accepted-taken g offset items fit few n start);
  once = written_once;
}
