-- Why a link asks more than a layout: with no channel open there is always one, and yet the room rule keeps R above the user's part of 255.
use Rattle.std.specs.Prelude.{◌≡◌, refl, [], ◌∷◌, ◌-◌}
use Rattle.std.proofs.Common.{arith}
use Rattle.names.specs.Definition.Tests.{letters_test}
use Rattle.rows.specs.Definition.Lists.{up_to}
use Rattle.rows.specs.Definition.Sizes.{chain_length, boundary_at}
use Rattle.kernel.specs.Definition.Start.{no_tables}
use Rattle.kernel.specs.Definition.Line.{grown, shrunk}
use Rattle.kernel.specs.Definition.Calls.{start, link, allocate}
use Rattle.kernel.specs.Definition.Step.{decided}
use Rattle.kernel.specs.declared.Tables.{Tables}
use Rattle.kernel.specs.declared.Answer.TheVariants.{NoRoom}
use Rattle.history.specs.Definition.Layout.{Layout}
use Rattle.history.specs.Definition.Places.{record_lengths, offered, Outside}

-- R = 11,074, list 254 and 255, and the user has allocated: 255 is shared with 11,074
unfoldable pub shared : Tables
unfolding decided no_tables
shared = (decided (decided no_tables 32768 0 (start 11074 (254 ∷ 255 ∷ []))).tables 32768 0 (allocate 0)).tables

-- a link with 1 byte is refused for room
pub link-refused : (decided shared 32768 0 (link 1 (65 ∷ []))).answer ≡ NoRoom
unfolding shared decided no_tables letters_test up_to chain_length boundary_at grown shrunk
link-refused = refl

-- and there is a layout with R - 1
pub link-layout : Layout (record_lengths shared) (Outside shared (shared.room - 1) (offered shared))
unfolding shared decided no_tables letters_test up_to chain_length boundary_at grown shrunk
link-layout = record {
  placed = λ i k. record { row = 0; offset = 0 };
  inside = λ i k b. absurd (omega arith);
  apart = λ i j k l b c e. absurd (omega arith);
}
