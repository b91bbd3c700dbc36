-- "Reset flags", in their order: the tables after a reset.
use Rattle.std.specs.Prelude.{Bool, cond, ◌||◌, map, ℕ, ◌-◌, ◌/◌, ◌%◌, ltb, leb, eqb, replicate}
use Rattle.rows.specs.Definition.Classes.{released}
use Rattle.rows.specs.Definition.Channels.{zero_channel}
use Rattle.rows.specs.Definition.Devices.{built_in}
use Rattle.kernel.specs.Definition.Tables.{with_segments, with_channels, with_devices}
use Rattle.kernel.specs.Definition.Line.{shrunk}
use Rattle.kernel.specs.declared.Tables.{Tables}

-- "a bit other than 4, 5, 6"
abbrev pub other_bits : ℕ → Bool
other_bits flags = ltb 0 (flags % 16) || leb 128 flags

abbrev pub bit4 : ℕ → Bool
bit4 flags = eqb (flags / 16 % 2) 1

abbrev pub bit5 : ℕ → Bool
bit5 flags = eqb (flags / 32 % 2) 1

abbrev pub bit6 : ℕ → Bool
bit6 flags = eqb (flags / 64 % 2) 1

-- "bit 5 closes all channels too, with or without bit 4"
abbrev pub closes_all : ℕ → Bool
closes_all flags = bit4 flags || bit5 flags

-- "bit 4 closes all channels"
unfoldable pub emptying : Tables → Tables
emptying t = shrunk (t.held - 1) (with_channels t 0 (replicate 32 zero_channel))

-- "then removes devices after 2, enables 0 to 2 and restores the cold R"
unfoldable pub restoring : Tables → Tables
restoring t = with_devices t t.cold 3 built_in

-- "bit 6 frees all user segments and ends sharing, the shared one becoming system and the user boundary 0"
unfoldable pub releasing : Tables → Tables
releasing t = with_segments t (map released t.classes) t.held t.chain 0

-- "Applied in that order; 0 does nothing." The default name and unit stay
unfoldable pub resetting : Tables → ℕ → Tables
resetting t flags =
    let u = cond (closes_all flags) (emptying t) t in
    let v = cond (bit5 flags) (restoring u) u in
    cond (bit6 flags) (releasing v) v
