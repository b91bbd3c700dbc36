-- Where each field stands in an image: behind the field before it, with that one's bytes.
use Rattle.std.specs.Prelude.{ℕ, ◌+◌, ◌*◌}

-- in a row of channels, behind the number; and the bytes of the row
abbrev pub CHANNEL-DEVICE : ℕ
CHANNEL-DEVICE = 1

abbrev pub CHANNEL-UNIT : ℕ
CHANNEL-UNIT = CHANNEL-DEVICE + 1

abbrev pub CHANNEL-N : ℕ
CHANNEL-N = CHANNEL-UNIT + 1

abbrev pub CHANNEL : ℕ
CHANNEL = CHANNEL-N + 2

-- in a row of devices, behind the name; and the bytes of the row
abbrev pub DEVICE-LENGTH : ℕ
DEVICE-LENGTH = 28

abbrev pub DEVICE-ENABLED : ℕ
DEVICE-ENABLED = DEVICE-LENGTH + 1

abbrev pub DEVICE : ℕ
DEVICE = DEVICE-ENABLED + 1

-- the fields of the tables, in their order; and the bytes of the image
abbrev pub SEGMENTS : ℕ
SEGMENTS = 0

abbrev pub LIST : ℕ
LIST = SEGMENTS + 1

abbrev pub CLASSES : ℕ
CLASSES = LIST + 32

abbrev pub HELD : ℕ
HELD = CLASSES + 32

abbrev pub CHAIN : ℕ
CHAIN = HELD + 1

abbrev pub USER : ℕ
USER = CHAIN + 32

abbrev pub ROOM : ℕ
ROOM = USER + 2

abbrev pub COLD : ℕ
COLD = ROOM + 2

abbrev pub OPENED : ℕ
OPENED = COLD + 2

abbrev pub CHANNELS : ℕ
CHANNELS = OPENED + 1

abbrev pub KNOWN : ℕ
KNOWN = CHANNELS + 32 * CHANNEL

abbrev pub DEVICES : ℕ
DEVICES = KNOWN + 1

abbrev pub NAME : ℕ
NAME = DEVICES + 16 * DEVICE

abbrev pub LENGTH : ℕ
LENGTH = NAME + 28

abbrev pub UNIT : ℕ
UNIT = LENGTH + 1

abbrev pub SIZE : ℕ
SIZE = UNIT + 1
