-- What a reply is found to be tells whether it is the definition's, or what differs first.
use Rattle.std.specs.Prelude.{◌≡◌, Bool, List, ◌⊎◌, ℕ, ◌+◌, length, Ok, Err}
use Rattle.std.specs.Str.{bytes_eq}
use Rattle.std.proofs.lemmas.Slice.Eq.{bytes_eq-Decides}
use Rattle.std.proofs.Math.Path.{refl}
use Rattle.std.proofs.Common.{sym, ◌∙◌}
use Rattle.std.proofs.Math.Bool.{true, false}
use Rattle.std.proofs.lemmas.Bool.{false≢true}
use Rattle.std.proofs.Math.Logic.{inl, inr}
use borrow.Author.Tests.{eqb-true, eqb-false, eq-eqb, ne_eqb}
use Rattle.std.proofs.Math.Dec.{eqb}
use Rattle.audit.specs.declared.Word.{Word}
use Rattle.audit.specs.declared.Word.TheVariants.{Cut, Answer as AnswerWord, A as AWord, B as BWord, Bytes as BytesWord}
use Rattle.audit.specs.Definition.Replies.{Reply, printed, reply_in, Sized}
use Rattle.audit.specs.Definition.Records.{Differs, in-answer, in-a, in_b, in_bytes}
use Rattle.audit.specs.Definition.Verdict.{Found, unless, judged}

differ_bytes : (xs ys : List ℕ) → (xs ≡ ys → ⊥) → bytes_eq xs ys ≡ false
differ_bytes xs ys h = go (bytes_eq xs ys) refl
  where
    go : (b : Bool) → bytes_eq xs ys ≡ b → b ≡ false
    go true e = absurd (h ((bytes_eq-Decides xs ys).0 e))
    go false e = refl

pub same-reply : (r s : Reply) → r.answer ≡ s.answer → r.a ≡ s.a → r.b ≡ s.b → r.bytes ≡ s.bytes → r ≡ s
same-reply r s e f g h = rw (e, f, g, h)

module _ (kind : ℕ) (body : List ℕ) (ours : Reply) where
  -- what a word tells of a reply: it is ill-sized, or well sized and differs
  abbrev pub Misses : Word → Type 0
  Misses word = ((Sized kind body → ⊥) × (word ≡ Cut)) ⊎ (Sized kind body × Differs (reply_in body) ours word)

  abbrev pub Tells : Found → Type 0
  Tells (Ok right) = Sized kind body × (reply_in body ≡ ours)
  Tells (Err word) = Misses word

  pub tells : Tells (judged kind body ours)
  unfolding judged
  tells = go _ _ _ _ _ refl refl refl refl refl
    where
      go : (p q r s t : Bool) → eqb (length body) (4 + printed kind (reply_in body).answer (reply_in body).b) ≡ p → eqb (reply_in body).answer ours.answer ≡ q
          → eqb (reply_in body).a ours.a ≡ r → eqb (reply_in body).b ours.b ≡ s → bytes_eq (reply_in body).bytes ours.bytes ≡ t
          → Tells (unless p Cut (unless q AnswerWord (unless r AWord (unless s BWord (unless t BytesWord (Ok tt))))))
      go false q r s t e f g h k = inl (eqb-false _ _ e, refl)
      go true false r s t e f g h k = inr (eqb-true _ _ e, in-answer (eqb-false _ _ f))
      go true true false s t e f g h k = inr (eqb-true _ _ e, in-a (eqb-true _ _ f) (eqb-false _ _ g))
      go true true true false t e f g h k = inr (eqb-true _ _ e, in_b (eqb-true _ _ f) (eqb-true _ _ g) (eqb-false _ _ h))
      go true true true true false e f g h k = inr (eqb-true _ _ e, in_bytes (eqb-true _ _ f) (eqb-true _ _ g) (eqb-true _ _ h) (λ q. false≢true (sym k ∙ (bytes_eq-Decides _ _).1 q)))
      go true true true true true e f g h k =
          (eqb-true _ _ e, same-reply (reply_in body) ours (eqb-true _ _ f) (eqb-true _ _ g) (eqb-true _ _ h) ((bytes_eq-Decides _ _).0 k))

  pub right-judged : Sized kind body → reply_in body ≡ ours → judged kind body ours ≡ Ok tt
  unfolding judged
  right-judged z e =
      rw (
        eq-eqb _ _ z,
        ← e,
        eq-eqb (reply_in body).answer (reply_in body).answer refl,
        eq-eqb (reply_in body).a (reply_in body).a refl,
        eq-eqb (reply_in body).b (reply_in body).b refl,
        (bytes_eq-Decides _ (reply_in body).bytes).1 refl,
      )

  pub cut-judged : (Sized kind body → ⊥) → judged kind body ours ≡ Err Cut
  unfolding judged
  cut-judged h = rw (ne_eqb _ _ h)

  pub differs-judged : Sized kind body → {word : Word} → Differs (reply_in body) ours word → judged kind body ours ≡ Err word
  unfolding judged
  differs-judged z (in-answer n) = rw (eq-eqb _ _ z, ne_eqb _ _ n)
  differs-judged z (in-a e n) = rw (eq-eqb _ _ z, eq-eqb _ _ e, ne_eqb _ _ n)
  differs-judged z (in_b e f n) = rw (eq-eqb _ _ z, eq-eqb _ _ e, eq-eqb _ _ f, ne_eqb _ _ n)
  differs-judged z (in_bytes e f g n) = rw (eq-eqb _ _ z, eq-eqb _ _ e, eq-eqb _ _ f, eq-eqb _ _ g, differ_bytes _ _ n)
