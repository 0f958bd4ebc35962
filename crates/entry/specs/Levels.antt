-- What the specification reads of a configuration where only the number of levels matters.
-- Assumes nothing.
use Rattle.std.specs.Prelude.{ℕ, false}
use Rattle.spec.specs.Config.{Config}

-- a configuration of that many levels; its sizes are not read
abbrev pub of_levels : ℕ → Config
of_levels n = record { levels = n; mark_room = 0; hosts = 0; shadows = 0; frames = 0; bits = false }
