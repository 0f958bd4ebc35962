-- Which bytes a load yields and a store alters. Document 02, 4).
-- Assumes nothing.
use Rattle.std.specs.Prelude.{◌≡◌, ◌⊎◌, ℕ, ◌+◌, ◌-◌, ◌*◌, ◌/◌, ◌%◌, ◌^◌, ◌<◌, ◌≤◌, Bool, true, cond, List, get_or}
use Rattle.spec.specs.declared.Fault.{Fault}
use Rattle.spec.specs.Config.{Config, guest_base}
use Rattle.spec.specs.Bytes.{part}
use Rattle.spec.specs.Walk.{Result, granted}
use Rattle.spec.specs.Plain.{Place}
use Rattle.spec.specs.Machine.{Machine}
use Rattle.spec.specs.Bits.{bits_set}
use Rattle.spec.specs.Call.{Call, store, device, plain, device_walk, verdict}

-- ---- bytes

-- byte j of a number, the lowest first
abbrev pub byte_of : ℕ → ℕ → ℕ
byte_of v j = part 8 (8 * j) v

-- byte b of a list of words
abbrev pub byte_in : List ℕ → ℕ → ℕ
byte_in ws b = byte_of (get_or ws (b / 8) 0) (b % 8)

-- where the bytes at the address a begin in the guest area, if its page is host frame t
abbrev pub first_byte : Config → ℕ → ℕ → ℕ
first_byte c t a = (t - guest_base c) * 4096 + a % 4096

-- ---- what a request does with them

-- v has w bytes of the area from the first on, in their order, and nothing above them
pub record Loads (area : List ℕ) (first w v : ℕ) : Type 0 where
  pub each : (j : ℕ) → j < w → byte_of v j ≡ byte_in area (first + j)
  pub above : v < 2 ^ (8 * w)

-- after has the low w bytes of v there, and every other byte as before
pub record Stores (before after : List ℕ) (first w v : ℕ) : Type 0 where
  pub own : (j : ℕ) → j < w → byte_in after (first + j) ≡ byte_of v j
  pub rest : (b : ℕ) → (b < first) ⊎ (first + w ≤ b) → byte_in after b ≡ byte_in before b

-- a store, a device's (d) too, and what it comes to on the machine
abbrev pub store_at : Bool → ℕ → ℕ → ℕ → Call
store_at d a w v = cond d (device a w v) (store a w v)

abbrev pub store_comes_to : Bool → Config → Machine → ℕ → Result Fault Place
store_comes_to d c m a = cond d (device_walk c m a).result (verdict c m true a)

-- the guest area that its bytes are stored to: with bits on its own are set before, and a device has none. With bits off it is the
-- machine's
abbrev pub store_finds : Bool → Config → Machine → ℕ → List ℕ
store_finds d c m a = cond d m.area (bits_set c true m (plain c m true a)).area

-- the request is granted at a page, and P holds of its host frame
abbrev pub GrantedAt : Result Fault Place → (ℕ → Type 0) → Type 0
GrantedAt x P = (p : Place) × (x ≡ granted p) × P p.0
