-- Each kind: the call in a body that has its fields.
use mathlib.Core.Path.{◌≡◌}
use mathlib.Core.List.{List}
use Prim.Native.Nat.{ℕ, ◌-◌, ◌≤◌}
use lib.ListN.{length, take, drop}
use borrow.Author.Tests.{le-ltb, eq-eqb}
use Rattle.kernel.specs.Definition.Calls.{start, reset, «open», close, read, write, default, status, link, boundary, set-user-boundary, allocate, free, store, load, load-module}
use Rattle.events.specs.Definition.Records.{u8_at, u16_at, start_in, reset_in, open_in, close_in, read_in, write_in, default_in, status_in, link_in, boundary_in, set_user_boundary_in, allocate_in, free_in, store_in, load_in, load_module_in}
use Rattle.events.proofs.Laws.{rest_of}

pub start-taken : (body : List ℕ) (room : ℕ) → 2 ≤ length body → room ≡ u16_at body 0 → start_in body ≡ start room (take (length body - 2) (drop 2 body))
unfolding start_in
start-taken body room h e = rw (le-ltb (length body) 2 h, e, rest_of 2 body)

pub reset-taken : (body : List ℕ) → length body ≡ 1 → reset_in body ≡ reset (u8_at body 0)
unfolding reset_in
reset-taken body h = rw (eq-eqb (length body) 1 h)

pub open-taken : (body : List ℕ) (n : ℕ) → 4 ≤ length body → n ≡ u16_at body 2 → open_in body ≡ «open» (u8_at body 0) (u8_at body 1) n (take (length body - 4) (drop 4 body))
unfolding open_in
open-taken body n h e = rw (le-ltb (length body) 4 h, e, rest_of 4 body)

pub close-taken : (body : List ℕ) → length body ≡ 1 → close_in body ≡ close (u8_at body 0)
unfolding close_in
close-taken body h = rw (eq-eqb (length body) 1 h)

pub read_taken : (body : List ℕ) (offset asked : ℕ) → length body ≡ 5 → offset ≡ u16_at body 1 → asked ≡ u16_at body 3 → read_in body ≡ read (u8_at body 0) offset asked
unfolding read_in
read_taken body offset asked h e f = rw (eq-eqb (length body) 5 h, e, f)

pub write-taken : (body : List ℕ) (offset : ℕ) → 3 ≤ length body → offset ≡ u16_at body 1 → write_in body ≡ write (u8_at body 0) offset (take (length body - 3) (drop 3 body))
unfolding write_in
write-taken body offset h e = rw (le-ltb (length body) 3 h, e, rest_of 3 body)

pub default-taken : (body : List ℕ) → 1 ≤ length body → default_in body ≡ default (u8_at body 0) (take (length body - 1) (drop 1 body))
unfolding default_in
default-taken body h = rw (le-ltb (length body) 1 h, rest_of 1 body)

pub status-taken : (body : List ℕ) → length body ≡ 0 → status_in body ≡ status
unfolding status_in
status-taken body h = rw (eq-eqb (length body) 0 h)

pub link-taken : (body : List ℕ) (m : ℕ) → 2 ≤ length body → m ≡ u16_at body 0 → link_in body ≡ link m (take (length body - 2) (drop 2 body))
unfolding link_in
link-taken body m h e = rw (le-ltb (length body) 2 h, e, rest_of 2 body)

pub boundary-taken : (body : List ℕ) → length body ≡ 0 → boundary_in body ≡ boundary
unfolding boundary_in
boundary-taken body h = rw (eq-eqb (length body) 0 h)

pub set-user-boundary-taken : (body : List ℕ) (value : ℕ) → length body ≡ 2 → value ≡ u16_at body 0 → set_user_boundary_in body ≡ set-user-boundary value
unfolding set_user_boundary_in
set-user-boundary-taken body value h e = rw (eq-eqb (length body) 2 h, e)

pub allocate-taken : (body : List ℕ) → length body ≡ 1 → allocate_in body ≡ allocate (u8_at body 0)
unfolding allocate_in
allocate-taken body h = rw (eq-eqb (length body) 1 h)

pub free-taken : (body : List ℕ) → length body ≡ 2 → free_in body ≡ free (u8_at body 0) (u8_at body 1)
unfolding free_in
free-taken body h = rw (eq-eqb (length body) 2 h)

pub store-taken : (body : List ℕ) (offset : ℕ) → 3 ≤ length body → offset ≡ u16_at body 1 → store_in body ≡ store (u8_at body 0) offset (take (length body - 3) (drop 3 body))
unfolding store_in
store-taken body offset h e = rw (le-ltb (length body) 3 h, e, rest_of 3 body)

pub load-taken : (body : List ℕ) (offset size : ℕ) → length body ≡ 5 → offset ≡ u16_at body 1 → size ≡ u16_at body 3 → load_in body ≡ load (u8_at body 0) offset size
unfolding load_in
load-taken body offset size h e f = rw (eq-eqb (length body) 5 h, e, f)

pub load-module-taken : (body : List ℕ) (offset : ℕ) → 4 ≤ length body → offset ≡ u16_at body 2
    → load_module_in body ≡ load-module (u8_at body 0) (u8_at body 1) offset (take (length body - 4) (drop 4 body))
unfolding load_module_in
load-module-taken body offset h e = rw (le-ltb (length body) 4 h, e, rest_of 4 body)
