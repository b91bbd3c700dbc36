-- The parts of good tables as tests that the code computes: every row of every array is asked.
use Rattle.std.specs.Prelude.{Bool, cond, not, ◌&&◌, ◌||◌, List, ℕ, ◌+◌, ◌-◌, length, get_or, take, leb, ltb, eqb}
use Rattle.std.specs.List.{list_all}
use Rattle.rows.specs.Definition.Lists.{at, padded, up_to, tally}
use Rattle.rows.specs.Definition.Classes.{FREE, SHARED, times_held}
use Rattle.rows.specs.Definition.Channels.{zero_channel}
use Rattle.rows.specs.Definition.Devices.{beyond_devices, same_name, VIDEO, NET, KEYBOARD}
use Rattle.rows.specs.declared.Channel.{Channel}
use Rattle.rows.specs.declared.Device.{Device}

-- rows from n on are zero
abbrev pub rest_row : List ℕ → ℕ → ℕ → Bool
rest_row xs n i = ltb i n || eqb (at xs i) 0

abbrev pub rise_row : List ℕ → ℕ → ℕ → Bool
rise_row xs n i = leb n (i + 1) || ltb (at xs i) (at xs (i + 1))

abbrev pub list_test : List ℕ → ℕ → Bool
list_test xs n = leb 2 n && leb n 32 && up_to 31 (rise_row xs n) && ltb 7 (at xs 0) && eqb (at xs (n - 1)) 255 && up_to 32 (rest_row xs n)

-- row 0 has no class, each other row has one
abbrev pub class_fits : ℕ → ℕ → Bool
class_fits i class = cond (eqb i 0) (eqb class 0) (leb FREE class && leb class SHARED)

-- asked of the rows below n
abbrev pub class_row : List ℕ → ℕ → ℕ → Bool
class_row cs n i = leb n i || class_fits i (at cs i)

abbrev pub class_test : List ℕ → ℕ → Bool
class_test cs n = up_to 32 (class_row cs n) && up_to 32 (rest_row cs n)

-- entry i of the chain is a row of the list
abbrev pub chain_row : List ℕ → ℕ → ℕ → ℕ → Bool
chain_row chain held n i = leb held i || ltb (at chain i) n

-- row i, of this class, stands k times in the chain, as often as its class says; a shared one is the chain's last
abbrev pub stands : ℕ → ℕ → ℕ → ℕ → Bool
stands class k last i = eqb k (times_held class) && (not (eqb class SHARED) || eqb last i)

-- asked of the rows below n
abbrev pub stands_row : ℕ → ℕ → ℕ → ℕ → ℕ → Bool
stands_row class k last n i = leb n i || stands class k last i

abbrev pub exact_row : List ℕ → List ℕ → ℕ → ℕ → ℕ → ℕ → Bool
exact_row cs chain held last n i = stands_row (at cs i) (tally i (take held chain)) last n i

abbrev pub chain_test : List ℕ → List ℕ → ℕ → ℕ → Bool
chain_test cs chain held n =
    leb 1 held && leb held 32 && eqb (at chain 0) (n - 1) && up_to 32 (chain_row chain held n)
    && up_to 32 (exact_row cs chain held (at chain (held - 1)) n) && up_to 32 (rest_row chain held)

abbrev pub room_test : ℕ → ℕ → Bool
room_test room cold = leb 256 room && leb room cold && leb cold 16128

abbrev pub user_test : ℕ → ℕ → ℕ → Bool
user_test class user edge = leb user edge && (eqb class SHARED || eqb user 0)

abbrev pub empty_channel : Channel → Bool
empty_channel c = eqb c.number 0 && eqb c.device 0 && eqb c.unit 0 && eqb c.n 0

-- rows from opened on are empty
abbrev pub rest_channel : List Channel → ℕ → ℕ → Bool
rest_channel cs opened i = ltb i opened || empty_channel (get_or cs i zero_channel)

-- row j has another number than row i
abbrev pub differ_row : List Channel → ℕ → ℕ → Bool
differ_row cs i j = not (eqb (get_or cs j zero_channel).number (get_or cs i zero_channel).number)

-- an open row: no earlier one has its number
abbrev pub channel_row : List Channel → ℕ → ℕ → Bool
channel_row cs known i =
    ltb (get_or cs i zero_channel).number 255 && ltb (get_or cs i zero_channel).device known && up_to i (differ_row cs i)

-- none of these has this number
abbrev pub lacks_number : List Channel → ℕ → Bool
lacks_number cs number = list_all (λ (c : Channel). not (eqb c.number number)) cs

-- c, which is row i, has a number of its own and a device in the table
abbrev pub channel_fits : List Channel → ℕ → ℕ → Channel → Bool
channel_fits cs known i c = ltb c.number 255 && ltb c.device known && lacks_number (take i cs) c.number

abbrev pub channel_test : List Channel → ℕ → ℕ → Bool
channel_test cs opened known = leb opened 32 && up_to opened (channel_row cs known) && up_to 32 (rest_channel cs opened)

-- a capital below the length, zero from it on
abbrev pub letter_row : List ℕ → ℕ → ℕ → Bool
letter_row name n i = (leb n i && eqb (at name i) 0) || (ltb i n && leb 65 (at name i) && leb (at name i) 90)

abbrev pub name_test : List ℕ → ℕ → Bool
name_test name n = leb n 28 && up_to 28 (letter_row name n)

abbrev pub default_test : List ℕ → ℕ → ℕ → Bool
default_test name n unit = name_test name n && (ltb 0 n || eqb unit 0)

abbrev pub zero_row : List ℕ → ℕ → Bool
zero_row name i = eqb (at name i) 0

abbrev pub empty_device : Device → Bool
empty_device d = eqb d.length 0 && not d.enabled && up_to 28 (zero_row d.name)

-- rows from known on are empty
abbrev pub rest_device : List Device → ℕ → ℕ → Bool
rest_device ds known i = ltb i known || empty_device (get_or ds i beyond_devices)

-- row j is no later one with the name of row i
abbrev pub alias_row : List Device → ℕ → ℕ → Bool
alias_row ds i j =
    leb j i || not (same_name (get_or ds j beyond_devices).name (get_or ds j beyond_devices).length (get_or ds i beyond_devices).name (get_or ds i beyond_devices).length)

abbrev pub agree : Bool → Bool → Bool
agree a b = (a && b) || (not a && not b)

abbrev pub device_row : List Device → ℕ → ℕ → Bool
device_row ds known i =
    leb 1 (get_or ds i beyond_devices).length && name_test (get_or ds i beyond_devices).name (get_or ds i beyond_devices).length
    && agree (get_or ds i beyond_devices).enabled (up_to known (alias_row ds i))

-- none of these has the name of d
abbrev pub lacks_name : List Device → Device → Bool
lacks_name ds d = list_all (λ (e : Device). not (same_name e.name e.length d.name d.length)) ds

-- d, before these, has a name, and is enabled exactly if none of these has it
abbrev pub device_fits : Device → List Device → Bool
device_fits d later = leb 1 d.length && name_test d.name d.length && agree d.enabled (lacks_name later d)

-- row i has the name s
abbrev pub named_row : List Device → ℕ → List ℕ → Bool
named_row ds i s = same_name (get_or ds i beyond_devices).name (get_or ds i beyond_devices).length (padded 28 s) (length s)

-- rows 0, 1, 2 are the devices that are built in
abbrev pub built_test : List Device → Bool
built_test ds = named_row ds 0 VIDEO && named_row ds 1 NET && named_row ds 2 KEYBOARD

abbrev pub device_test : List Device → ℕ → Bool
device_test ds known =
    leb 3 known && leb known 16 && built_test ds && up_to known (device_row ds known) && up_to 16 (rest_device ds known)
