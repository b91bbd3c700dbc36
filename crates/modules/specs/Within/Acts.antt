-- What comes of an item, and of the stop that the reading yields.
use Rattle.std.specs.Prelude.{ℕ, ◌+◌, ◌%◌, ◌≤◌, Bool, cond, List, [], ◌==◌, nat_lt, Result, Ok, Err}
use Rattle.line.specs.Definition.Guard.{guarded}
use Rattle.modules.specs.Definition.Bits.{Bit}
use Rattle.modules.specs.Definition.Reading.{end, illegal-item, end-of-input}
use Rattle.modules.specs.Definition.Counter.{page_size, counter, landing, after, Put, puts_at, put_each}
use Rattle.modules.specs.Definition.Judging.{leaves, outside, above, touches, judged_at}
use Rattle.modules.specs.Within.Codes.{item_of}
use Rattle.modules.specs.declared.Item.{Item}
use Rattle.modules.specs.declared.Item.TheVariants.{Byte, Word, SetPage, Restore, Move}
use Rattle.modules.specs.declared.Counter.{Counter}
use Rattle.modules.specs.declared.Target.{Target}
use Rattle.modules.specs.declared.Refusal.{Refusal}
use Rattle.modules.specs.declared.Refusal.TheVariants.{Page, Range, Guard}
use Rattle.modules.specs.declared.Stop.{Stop}
use Rattle.modules.specs.declared.Stop.TheVariants.{End, Illegal, Exhausted, Refused}

-- of an item with no part of its bits missing
abbrev pub item_act : Target → Counter → Item → Result Counter Refusal
item_act g c i =
    cond (outside c i) (Err Page)
    (cond (above g c i) (Err Range)
    (cond (touches g c i) (Err Guard) (Ok (after g.page c i))))

-- of a store of so many bytes
abbrev pub put_act : Target → Counter → (size : ℕ) → Result Counter Refusal
put_act g c size =
    cond (nat_lt page_size (c.offset + size)) (Err Page)
    (cond (nat_lt g.reach (c.offset + size)) (Err Range)
    (cond (guarded g.row c.offset size) (Err Guard) (Ok (counter c.page (c.offset + size)))))

-- of a move
abbrev pub move_act : Counter → (x : ℕ) → Result Counter Refusal
move_act c x = cond (leaves c (Move x)) (Err Page) (Ok (counter c.page (landing c x % page_size)))

-- an item that is refused stops the reading
abbrev pub or_stops : Result Counter Refusal → Result Counter Stop
or_stops (Ok d) = Ok d
or_stops (Err why) = Err (Refused why)

unfoldable pub act_of : Target → Counter → (code : ℕ) → Result Counter Stop
act_of g c code = cond (code == 14) (Err End) (cond (code == 15) (Err Illegal) (or_stops (item_act g c (item_of code))))

-- what it stores: nothing where it stops
abbrev pub act_puts : Result Counter Stop → Counter → Item → List Put
act_puts (Ok d) c i = puts_at c i
act_puts (Err why) c i = []

-- the RAM with the bytes put, where the reading stores
abbrev pub put_where : (storing : Bool) (base : ℕ) → List ℕ → List Put → List ℕ
put_where storing base ram puts = cond storing (put_each base ram puts) ram

-- a page that is set is one
abbrev pub Paged : Item → Type 0
Paged (Byte x) = Unit {0}
Paged (Word x) = Unit {0}
Paged (SetPage page) = page ≤ 3
Paged Restore = Unit {0}
Paged (Move x) = Unit {0}

-- what a stop is judged to be; `n` is the stream's bytes, and `rest` the bits behind
abbrev pub settled : (n : ℕ) → Stop → (rest : List Bit) → Result ℕ Refusal
settled n End rest = judged_at n (end rest)
settled n Illegal rest = judged_at n illegal-item
settled n Exhausted rest = judged_at n end-of-input
settled n (Refused why) rest = Err why
