-- A call over bytes: the tables as their image, the event record's kind and body, and ten bytes of reply.
use Rattle.std.specs.Prelude.{◌≡◌, Bool, true, false, cond, ◌&&◌, List, ℕ, eqb, leb, length, drop}
use Rattle.kernel.specs.Definition.Answers.{granted}
use Rattle.kernel.specs.Definition.Step.{Result}
use Rattle.kernel.specs.declared.Tables.{Tables}
use Rattle.kernel.specs.declared.Answer.{Answer}
use Rattle.events.specs.Definition.Records.{u16_at, step_of}
use Rattle.image.specs.Definition.Offsets.{SIZE}
use Rattle.image.specs.Definition.Image.{image_of, tables_of, outcome_bytes}

-- the lengths that a call over bytes takes
unfoldable pub fits : (image event reply : List ℕ) → Bool
fits image event reply = eqb (length image) SIZE && leb 2 (length event) && leb (length event) 4096 && eqb (length reply) 10

abbrev pub step_on : (image ram event out : List ℕ) → Result
step_on image ram event out = step_of (tables_of image) ram (u16_at event 0) (drop 2 event) out

-- "A refused call .. changes no table": the image stays byte for byte, also where it is another one than its tables' (an `enabled` of 2)
abbrev pub image_after : Answer → Tables → (image : List ℕ) → List ℕ
image_after answer t image = cond (granted answer) (image_of t) image

-- what a call over bytes leaves, with the accents
pub record Done (image ram event out : List ℕ) (image' ram' out' reply' : List ℕ) : Type 0 where
  pub image-is : image' ≡ image_after (step_on image ram event out).answer (step_on image ram event out).tables image
  pub ram-is : ram' ≡ (step_on image ram event out).ram
  pub out-is : out' ≡ (step_on image ram event out).output
  pub reply-is : reply' ≡ outcome_bytes (step_on image ram event out).answer (step_on image ram event out).moved

pub record Kept (image ram out reply : List ℕ) (image' ram' out' reply' : List ℕ) : Type 0 where
  pub image-is : image' ≡ image
  pub ram-is : ram' ≡ ram
  pub out-is : out' ≡ out
  pub reply-is : reply' ≡ reply

abbrev pub CalledBy : (image ram event out reply image' ram' out' reply' : List ℕ) → Bool → Type 0
CalledBy image ram event out reply image' ram' out' reply' true = Done image ram event out image' ram' out' reply'
CalledBy image ram event out reply image' ram' out' reply' false = Kept image ram out reply image' ram' out' reply'

-- the call is made where every length is right, and else nothing changes
abbrev pub Called : (image ram event out reply image' ram' out' reply' : List ℕ) → Bool → Type 0
Called image ram event out reply image' ram' out' reply' r =
    (r ≡ fits image event reply) × CalledBy image ram event out reply image' ram' out' reply' r
