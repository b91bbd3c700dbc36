-- "Calls and their bodies": the event record at the front of a log, its kind and body as a call, and what that call leaves.
use Rattle.std.specs.Prelude.{cond, List, ℕ, ◌+◌, ◌-◌, ◌*◌, length, get_or, take, drop, ltb, eqb, Ok, Err, Result as ResultOf}
use Rattle.kernel.specs.Definition.Calls.{Call, start, reset, «open», close, read, write, default, status, link, boundary, set-user-boundary, allocate, free, store, load, load-module, no_call, short-start}
use Rattle.kernel.specs.Definition.Step.{Result, step}
use Rattle.kernel.specs.declared.Tables.{Tables}
use Rattle.events.specs.declared.NoRecord.{NoRecord}
use Rattle.events.specs.declared.NoRecord.TheVariants.{Cut, Bad}
use Rattle.events.specs.declared.Record.{Record}

-- "Numbers are little-endian; u8, u16 below."
abbrev pub u8_at : (body : List ℕ) (i : ℕ) → ℕ
u8_at body i = get_or body i 0

abbrev pub u16_at : (body : List ℕ) (i : ℕ) → ℕ
u16_at body i = u8_at body i + 256 * u8_at body (i + 1)

-- what stands at the front of a log: a record, or why there is none
abbrev pub Front : Type 0
Front = ResultOf Record NoRecord

-- "An event record (build): length in 2 bytes counting kind and body (2 to 4,096), kind in 2 bytes, body.": at the front of a log stands a record of this
-- kind whose body has so many bytes, less than a record, or "a bad length"
unfoldable pub front_of : List ℕ → Front
front_of xs =
    let n = u16_at xs 0 in
    cond (ltb (length xs) 2) (Err Cut)
    (cond (ltb n 2) (Err Bad)
    (cond (ltb 4096 n) (Err Bad)
    (cond (ltb (length xs) (n + 2)) (Err Cut)
    (Ok (record { kind = u16_at xs 2; size = n - 2 })))))

-- the body of n bytes of the record at the front, and what follows it
abbrev pub body_of : (xs : List ℕ) (n : ℕ) → List ℕ
body_of xs n = take n (drop 4 xs)

abbrev pub rest_of : (xs : List ℕ) (n : ℕ) → List ℕ
rest_of xs n = drop (4 + n) xs

-- 2 CALL: "body short of its fixed fields": these are n bytes, and a name, data, a list or a stream is the rest of the body
abbrev pub at_least : (n : ℕ) (body : List ℕ) → Call → Call
at_least n body c = cond (ltb (length body) n) no_call c

-- "or longer without name, data or list": the fixed fields are the whole body
abbrev pub exactly : (n : ℕ) (body : List ℕ) → Call → Call
exactly n body c = cond (eqb (length body) n) c no_call

-- "256 start | R u16, list". TABLES is "not for start", also where the body is short
unfoldable pub start_in : List ℕ → Call
start_in body = cond (ltb (length body) 2) short-start (start (u16_at body 0) (drop 2 body))

-- "0 reset | flags u8"
unfoldable pub reset_in : List ℕ → Call
reset_in body = exactly 1 body (reset (u8_at body 0))

-- "1 open | channel u8, driver status u8, n u16, name"
unfoldable pub open_in : List ℕ → Call
open_in body = at_least 4 body («open» (u8_at body 0) (u8_at body 1) (u16_at body 2) (drop 4 body))

-- "3 close | channel u8"
unfoldable pub close_in : List ℕ → Call
close_in body = exactly 1 body (close (u8_at body 0))

-- "6 read | channel u8, offset u16, length u16"
unfoldable pub read_in : List ℕ → Call
read_in body = exactly 5 body (read (u8_at body 0) (u16_at body 1) (u16_at body 3))

-- "8 write | channel u8, offset u16, data"
unfoldable pub write_in : List ℕ → Call
write_in body = at_least 3 body (write (u8_at body 0) (u16_at body 1) (drop 3 body))

-- "19 default | unit u8, name"
unfoldable pub default_in : List ℕ → Call
default_in body = at_least 1 body (default (u8_at body 0) (drop 1 body))

-- "20 status | none"
unfoldable pub status_in : List ℕ → Call
status_in body = exactly 0 body status

-- "21 link | m u16, name"
unfoldable pub link_in : List ℕ → Call
link_in body = at_least 2 body (link (u16_at body 0) (drop 2 body))

-- "22 boundary | none"
unfoldable pub boundary_in : List ℕ → Call
boundary_in body = exactly 0 body boundary

-- "23 set user boundary | u16"
unfoldable pub set_user_boundary_in : List ℕ → Call
set_user_boundary_in body = exactly 2 body (set-user-boundary (u16_at body 0))

-- "24 allocate | 0 user or 1 device, u8"
unfoldable pub allocate_in : List ℕ → Call
allocate_in body = exactly 1 body (allocate (u8_at body 0))

-- "25 free | caller u8, segment u8"
unfoldable pub free_in : List ℕ → Call
free_in body = exactly 2 body (free (u8_at body 0) (u8_at body 1))

-- "257 user store | segment u8, offset u16, data"
unfoldable pub store_in : List ℕ → Call
store_in body = at_least 3 body (store (u8_at body 0) (u16_at body 1) (drop 3 body))

-- "258 user load | segment u8, offset u16, length u16"
unfoldable pub load_in : List ℕ → Call
load_in body = exactly 5 body (load (u8_at body 0) (u16_at body 1) (u16_at body 3))

-- order 3: "Kind 30's body is segment u8, start page u8 (0 to 3), start offset u16 (0 to 16,384), then the stream." A page or an offset "past its range" is
-- the call's own to refuse
unfoldable pub load_module_in : List ℕ → Call
load_module_in body = at_least 4 body (load-module (u8_at body 0) (u8_at body 1) (u16_at body 2) (drop 4 body))

-- the kinds in 01's order, then order 3's; "kind unknown" is no call
unfoldable pub call_in : (kind : ℕ) (body : List ℕ) → Call
call_in kind body =
    cond (eqb kind 256) (start_in body)
    (cond (eqb kind 0) (reset_in body)
    (cond (eqb kind 1) (open_in body)
    (cond (eqb kind 3) (close_in body)
    (cond (eqb kind 6) (read_in body)
    (cond (eqb kind 8) (write_in body)
    (cond (eqb kind 19) (default_in body)
    (cond (eqb kind 20) (status_in body)
    (cond (eqb kind 21) (link_in body)
    (cond (eqb kind 22) (boundary_in body)
    (cond (eqb kind 23) (set_user_boundary_in body)
    (cond (eqb kind 24) (allocate_in body)
    (cond (eqb kind 25) (free_in body)
    (cond (eqb kind 257) (store_in body)
    (cond (eqb kind 258) (load_in body)
    (cond (eqb kind 30) (load_module_in body)
    no_call)))))))))))))))

-- what an event record's call leaves
abbrev pub step_of : Tables → (ram : List ℕ) (kind : ℕ) (body out : List ℕ) → Result
step_of t ram kind body out = step t ram (call_in kind body) out
