-- Which rows of the refusal table speak of a call.
use Rattle.std.specs.Prelude.{◌≡◌, refl, Bool, true, false, cond, List, [], ◌∷◌, ℕ}
use Rattle.std.proofs.Common.{inl, inr}
use Rattle.kernel.specs.Definition.Answers.{granted, Refusal, unless, Decision}
use Rattle.kernel.specs.Definition.Calls.{Call, start, reset, «open», close, read, write, default, status, link, boundary, set-user-boundary, allocate, free, store, load, load-module, no_call, short-start, is_start}
use Rattle.kernel.specs.Definition.Refusals.{Row, tables-bad, ram-wrong, call-unknown, start-short, allocate-caller, free-caller, module-start-page, module-start-offset, open-channel, close-channel, read-channel, write-channel, open-exists, open-name, link-name, default-name, open-device, open-driver, open_full, link-full, open-room, link-low, link-room, allocate-none, free-owner, store-owner, load-owner, module-owner, bound-none, bound-above, read-output, write-end, status-output, store-end, load-end, load-output, module-range, module-guard, store-guard, reset-flags, start-list, start-low, start-high, start-ram, module-bad, module-page}
use Rattle.kernel.specs.declared.Tables.{Tables}
use Rattle.history.specs.Answers.Lowest.{Among, clear, over, Below, Lowest, Rising, unless-lowest, none-holds}

-- the rows that speak of a call, but for 1; none has the number 0
abbrev later : Call → (ns : List ℕ) × (clear 0 1 ns ≡ true)
later (start room list) = (16 ∷ [], refl)
later (reset flags) = (15 ∷ [], refl)
later («open» channel driver n name) = (3 ∷ 4 ∷ 5 ∷ 6 ∷ 7 ∷ 8 ∷ 9 ∷ [], refl)
later (close channel) = (3 ∷ [], refl)
later (read channel offset asked) = (3 ∷ 13 ∷ [], refl)
later (write channel offset bytes) = (3 ∷ 13 ∷ [], refl)
later (default unit name) = (5 ∷ [], refl)
later status = (13 ∷ [], refl)
later (link m name) = (5 ∷ 8 ∷ 9 ∷ [], refl)
later boundary = ([], refl)
later (set-user-boundary value) = (12 ∷ [], refl)
later (allocate caller) = (2 ∷ 10 ∷ [], refl)
later (free caller segment) = (2 ∷ 11 ∷ [], refl)
later (store segment offset bytes) = (11 ∷ 13 ∷ 14 ∷ [], refl)
later (load segment offset size) = (11 ∷ 13 ∷ [], refl)
later (load-module segment page offset stream) = (2 ∷ 11 ∷ 13 ∷ 14 ∷ 19 ∷ 20 ∷ [], refl)
later no_call = (2 ∷ [], refl)
later short-start = (2 ∷ [], refl)

-- row 1 speaks of every call but start
abbrev with_one : Bool → List ℕ → List ℕ
with_one starts ns = cond starts ns (1 ∷ ns)

abbrev pub numbers : Call → List ℕ
numbers c = with_one (is_start c) (later c).0

clear-one : (starts : Bool) (ns : List ℕ) → clear 0 1 ns ≡ true → clear 0 1 (with_one starts ns) ≡ true
clear-one true ns e = e
clear-one false ns e = e

pub numbers-some : (c : Call) → clear 0 1 (numbers c) ≡ true
numbers-some c = clear-one (is_start c) (later c).0 (later c).1

not_start : (c : Call) → is_start c ≡ false → Among 1 (numbers c)
not_start c e = rw e (inl refl)

module _ {t : Tables} {ram output : ℕ} where
  pub row_number : (c : Call) (k : ℕ) → Row t ram output c k → Among k (numbers c)
  row_number c k (tables-bad s h) = not_start c s
  row_number c k (ram-wrong s h) = not_start c s
  row_number c k call-unknown = inr (inl refl)
  row_number c k start-short = inl refl
  row_number c k (allocate-caller h) = inr (inl refl)
  row_number c k (free-caller h) = inr (inl refl)
  row_number c k (module-start-page h) = inr (inl refl)
  row_number c k (module-start-offset h) = inr (inl refl)
  row_number c k (open-channel h) = inr (inl refl)
  row_number c k (close-channel h) = inr (inl refl)
  row_number c k (read-channel h) = inr (inl refl)
  row_number c k (write-channel h) = inr (inl refl)
  row_number c k (open-exists h) = inr (inr (inl refl))
  row_number c k (open-name h) = inr (inr (inr (inl refl)))
  row_number c k (link-name h) = inr (inl refl)
  row_number c k (default-name h) = inr (inl refl)
  row_number c k (open-device r h) = inr (inr (inr (inr (inl refl))))
  row_number c k (open-driver h) = inr (inr (inr (inr (inr (inl refl)))))
  row_number c k (open_full h) = inr (inr (inr (inr (inr (inr (inl refl))))))
  row_number c k (link-full h) = inr (inr (inl refl))
  row_number c k (open-room h) = inr (inr (inr (inr (inr (inr (inr (inl refl)))))))
  row_number c k (link-low h) = inr (inr (inr (inl refl)))
  row_number c k (link-room h) = inr (inr (inr (inl refl)))
  row_number c k (allocate-none h s) = inr (inr (inl refl))
  row_number c k (free-owner h) = inr (inr (inl refl))
  row_number c k (store-owner h) = inr (inl refl)
  row_number c k (load-owner h) = inr (inl refl)
  row_number c k (module-owner h) = inr (inr (inl refl))
  row_number c k (bound-none h) = inr (inl refl)
  row_number c k (bound-above h) = inr (inl refl)
  row_number c k (read-output o h) = inr (inr (inl refl))
  row_number c k (write-end o h) = inr (inr (inl refl))
  row_number c k (status-output h) = inr (inl refl)
  row_number c k (store-end o h) = inr (inr (inl refl))
  row_number c k (load-end o h) = inr (inr (inl refl))
  row_number c k (load-output h) = inr (inr (inl refl))
  row_number c k (module-range o h) = inr (inr (inr (inl refl)))
  row_number c k (module-guard o h) = inr (inr (inr (inr (inl refl))))
  row_number c k (store-guard o a b h) = inr (inr (inr (inl refl)))
  row_number c k (reset-flags h) = inr (inl refl)
  row_number c k (start-list h) = inl refl
  row_number c k (start-low h) = inl refl
  row_number c k (start-high h) = inl refl
  row_number c k (start-ram h) = inl refl
  row_number c k (module-bad o h) = inr (inr (inr (inr (inr (inl refl)))))
  row_number c k (module-page o h) = inr (inr (inr (inr (inr (inr (inl refl))))))

-- the laws of Lowest.antt for the rows of a call
module _ {t : Tables} {ram output : ℕ} (c : Call) where
  pub by_rows : {from to : ℕ} {rs : List Refusal} (done : Decision) → Rising (Row t ram output c) (numbers c) from rs to
      → (Below (Row t ram output c) to → Lowest (Row t ram output c) done) → Below (Row t ram output c) from → Lowest (Row t ram output c) (unless rs t done)
  by_rows done = unless-lowest (Row t ram output c) (numbers c) (row_number c) t done

  pub by-none : {from : ℕ} (d : Decision) → granted d.answer ≡ true → over from (numbers c) ≡ true → Below (Row t ram output c) from → Lowest (Row t ram output c) d
  by-none d = none-holds (Row t ram output c) (numbers c) (row_number c) d
