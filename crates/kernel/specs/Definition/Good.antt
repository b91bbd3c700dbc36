-- "Tables are good when": as a record of facts, and as the test that the code runs.
use Rattle.std.specs.Prelude.{◌≡◌, Bool, ◌&&◌, eqb, length}
use Rattle.rows.specs.Definition.Sizes.{chain_length}
use Rattle.rows.specs.Definition.Good.{ListGood, ClassesGood, ChainGood, RoomGood, ChannelsGood, UserGood, DevicesGood, DefaultGood}
use Rattle.rows.specs.Definition.Tests.{list_test, class_test, chain_test, room_test, channel_test, user_test, device_test, default_test}
use Rattle.kernel.specs.Definition.Tables.{class_at, last_row}
use Rattle.kernel.specs.Definition.Line.{total_of, boundary_of}
use Rattle.kernel.specs.declared.Tables.{Tables}

-- the lengths of the arrays of rows, which every value of the type has
pub record Sized (t : Tables) : Type 0 where
  pub list : length t.list ≡ 32
  pub classes : length t.classes ≡ 32
  pub chain : length t.chain ≡ 32
  pub channels : length t.channels ≡ 32
  pub devices : length t.devices ≡ 16

pub record Good (t : Tables) : Type 0 where
  pub sized : Sized t
  pub list : ListGood t.list t.segments
  pub classes : ClassesGood t.segments t.classes
  pub room : RoomGood t.room t.cold
  pub chain : ChainGood t.segments t.classes t.chain t.held
  -- "its length is the one computed below"
  pub line : t.held ≡ chain_length t.room (total_of t)
  pub channels : ChannelsGood t.channels t.opened t.known
  pub user : UserGood t.classes (last_row t) t.user (boundary_of t)
  pub devices : DevicesGood t.devices t.known
  pub default : DefaultGood t.name t.length t.unit

unfoldable pub good_test : Tables → Bool
good_test t =
    list_test t.list t.segments && class_test t.classes t.segments && room_test t.room t.cold
    && chain_test t.classes t.chain t.held t.segments && channel_test t.channels t.opened t.known
    && eqb t.held (chain_length t.room (total_of t)) && user_test (class_at t (last_row t)) t.user (boundary_of t)
    && device_test t.devices t.known && default_test t.name t.length t.unit
