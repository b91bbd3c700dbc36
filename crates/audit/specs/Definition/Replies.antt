-- The body of "a reply record": the definition's reply to an event, and the reply that a body holds.
use Rattle.std.specs.Prelude.{◌≡◌, cond, List, ℕ, ◌+◌, length, take, drop}
use Rattle.kernel.specs.Definition.Answers.{number_of, a_of, b_of}
use Rattle.kernel.specs.declared.Answer.{Answer}
use Rattle.events.specs.Definition.Records.{u8_at, u16_at}
use Rattle.listing.specs.Definition.Log.{shows_of}

-- "answer number u8, a u8, b u16 and the b output bytes where the listing program would print any"
pub record Reply : Type 0 where
  pub answer : ℕ
  pub a : ℕ
  pub b : ℕ
  pub bytes : List ℕ

-- how many output bytes the listing program would print for an event of this kind
abbrev pub printed : (kind answer b : ℕ) → ℕ
printed kind answer b = cond (shows_of kind answer b) b 0

-- the definition's reply, from its answer and the output that it leaves
abbrev pub reply_of : (kind : ℕ) → Answer → (output : List ℕ) → Reply
reply_of kind answer output =
    record {
      answer = number_of answer;
      a = a_of answer;
      b = b_of answer;
      bytes = take (printed kind (number_of answer) (b_of answer)) output;
    }

-- the reply in the body of a record
abbrev pub reply_in : (body : List ℕ) → Reply
reply_in body = record { answer = u8_at body 0; a = u8_at body 1; b = u16_at body 2; bytes = drop 4 body }

-- a reply that is not "ill-sized": by its own fields its body has four bytes and those that would be printed. A body that is too short holds zeros in the place of
-- what it has not, so that this is asked first
abbrev pub Sized : (kind : ℕ) (body : List ℕ) → Type 0
Sized kind body = length body ≡ 4 + printed kind (reply_in body).answer (reply_in body).b
