-- What a record leaves, computed, is that it is right, or wrong by a word.
use Rattle.std.specs.Prelude.{◌≡◌, Bool, cond, List, ℕ, Ok, Err}
use Rattle.std.proofs.Math.Path.{refl}
use Rattle.std.proofs.Math.Bool.{true, false}
use Rattle.std.proofs.Common.{inl, inr}
use borrow.Author.Tests.{eqb-true, eqb-false, eq-eqb, ne_eqb}
use Rattle.std.proofs.Math.Dec.{eqb}
use Rattle.kernel.specs.Definition.Answers.{number_of}
use Rattle.audit.specs.declared.Due.{Due}
use Rattle.audit.specs.declared.Due.TheVariants.{Start, Event, Reply as ReplyTo}
use Rattle.audit.specs.declared.Word.{Word}
use Rattle.audit.specs.declared.Word.TheVariants.{Start as StartWord, Cut as CutWord}
use Rattle.audit.specs.Definition.Replies.{reply_of}
use Rattle.audit.specs.Definition.Records.{State, called, asked, answered, Right, start, event, reply, Wrong, no_start, no-event, no-reply, ill-sized, differs}
use Rattle.audit.specs.Definition.Verdict.{Found, unless, judged, Next, goes, next_by, next}
use Rattle.audit.specs.Laws.Replies.{Tells, tells, right-judged, cut-judged, differs-judged}

module _ (s : State) (kind : ℕ) (body : List ℕ) where
  abbrev pub Says : Next → Type 0
  Says (Ok to) = Right s kind body to
  Says (Err word) = Wrong s kind body word

  says-by : (d : Due) → s.due ≡ d → Says (next_by d s kind body)
  says-by Start e = go _ _ refl refl
    where
      go : (p q : Bool) → eqb kind 256 ≡ p → eqb (number_of (called s kind body).answer) 0 ≡ q
          → Says (goes (unless p StartWord (unless q StartWord (Ok tt))) (asked s kind body))
      go false q f g = no_start e (λ h. eqb-false kind 256 f h.0)
      go true false f g = no_start e (λ h. eqb-false _ 0 g h.1)
      go true true f g = start e (eqb-true kind 256 f, eqb-true _ 0 g)
  says-by Event e = go _ refl
    where
      go : (p : Bool) → eqb kind 512 ≡ p → Says (cond p (Err CutWord) (Ok (asked s kind body)))
      go true f = no-event e (eqb-true kind 512 f)
      go false f = event e (eqb-false kind 512 f)
  says-by (ReplyTo of answer) e = go _ refl
    where
      found : kind ≡ 512 → (r : Found) → Tells of body (reply_of of answer s.output) r → Says (goes r (answered s))
      found k (Ok right) t = reply e k t.0 t.1
      found k (Err word) (inl (z, w)) = rw w (ill-sized e k z)
      found k (Err word) (inr (z, d)) = differs e k z d

      go : (p : Bool) → eqb kind 512 ≡ p → Says (cond p (goes (judged of body (reply_of of answer s.output)) (answered s)) (Err CutWord))
      go true f = found (eqb-true kind 512 f) (judged of body (reply_of of answer s.output)) (tells of body (reply_of of answer s.output))
      go false f = no-reply e (eqb-false kind 512 f)

  pub says : Says (next s kind body)
  unfolding next
  says = says-by s.due refl

  pub right-next : {to : State} → Right s kind body to → next s kind body ≡ Ok to
  unfolding next
  right-next (start e (k, n)) = rw (e, eq-eqb kind 256 k, eq-eqb _ 0 n)
  right-next (event e n) = rw (e, ne_eqb kind 512 n)
  right-next (reply e k z q) = rw (e, eq-eqb kind 512 k, right-judged _ body _ z q)

  pub wrong-next : {word : Word} → Wrong s kind body word → next s kind body ≡ Err word
  unfolding next
  wrong-next (no_start e h) = rw e (go _ _ refl refl)
    where
      go : (p q : Bool) → eqb kind 256 ≡ p → eqb (number_of (called s kind body).answer) 0 ≡ q
          → goes (unless p StartWord (unless q StartWord (Ok tt))) (asked s kind body) ≡ Err StartWord
      go false q f g = refl
      go true false f g = refl
      go true true f g = absurd (h (eqb-true kind 256 f, eqb-true _ 0 g))
  wrong-next (no-event e k) = rw (e, eq-eqb kind 512 k)
  wrong-next (no-reply e n) = rw (e, ne_eqb kind 512 n)
  wrong-next (ill-sized e k z) = rw (e, eq-eqb kind 512 k, cut-judged _ body _ z)
  wrong-next (differs e k z d) = rw (e, eq-eqb kind 512 k, differs-judged _ body _ z d)
