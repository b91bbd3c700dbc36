-- What stands in a buffer after a read behind bytes that are kept.
use Rattle.std.proofs.Common.{Ok, Err, ◌≡◌, List, ◌++◌, ℕ, ◌+◌, ◌-◌, ◌≤◌, length, take, drop, ap, ◌∙◌, arith, length-drop, length-take-le, take-add}
use Rattle.files.specs.Definition.Outcomes.{Got, Brings, count_of, ReadOn}

counted : (size : ℕ) (got : Got) → Brings size got → count_of got ≤ size
counted size (Ok n) b = b
counted size (Err failed) b = omega arith

-- a read behind n bytes that are kept
pub reads_on : (xs buf : List ℕ) (n : ℕ) (got : Got) → n ≤ length buf → take n buf ≡ xs → Brings (length buf - n) got → ReadOn xs n buf got
reads_on xs buf n got h kept b =
    let k : n + count_of got ≤ length buf = omega (arith, counted (length buf - n) got b) in
    record {
      piece = take (count_of got) (drop n buf);
      came = length-take-le (count_of got) (drop n buf) (rw length-drop (omega arith));
      fits = k;
      hand = take-add n (count_of got) buf ∙ ap (λ (ys : List ℕ). ys ++ take (count_of got) (drop n buf)) kept;
    }
