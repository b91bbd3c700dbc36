-- Laws of the place of a channel, as the code says it.
use Rattle.std.specs.Prelude.{◌≡◌, Some, None, ℕ, ◌≤◌, ◌<◌}
use Rattle.std.proofs.Math.Decide.{dec_le}
use Rattle.std.proofs.Common.{arith, lt-ltb, le-ltb}
use Rattle.rows.specs.Definition.Channels.{found_at}

pub found-yes : (i n : ℕ) → i < n → found_at i n ≡ Some i
found-yes i n h = rw (found_at, lt-ltb i n h)

pub found-no : (i n : ℕ) → n ≤ i → found_at i n ≡ None
found-no i n h = rw (found_at, le-ltb i n h)

pub found-at : (i n j : ℕ) → found_at i n ≡ Some j → (i ≡ j) × (i < n)
found-at i n j e =
    elim (dec_le n i) [
      | yes h ↦ absurd (let f : found_at i n ≡ None = found-no i n h in let z : ◌≡◌ {A = ℕ} 0 1 = cc in omega arith)
      | no h ↦ (let f : found_at i n ≡ Some i = found-yes i n (omega arith) in (cc), omega arith)
    ]

pub found_nowhere : (i n : ℕ) → found_at i n ≡ None → n ≤ i
found_nowhere i n e =
    elim (dec_le n i) [
      | yes h ↦ h
      | no h ↦ absurd (let f : found_at i n ≡ Some i = found-yes i n (omega arith) in let z : ◌≡◌ {A = ℕ} 0 1 = cc in omega arith)
    ]
