-- Ranges: a walk reads at most 35 words, those of a plain walk of five levels, so that the sums over a list stay small.
-- Assumes nothing.
use Rattle.std.specs.Prelude.{ℕ, ◌*◌, ◌≤◌}
use Rattle.forecast.specs.declared.Sum.{Sum}
use Rattle.forecast.specs.declared.Paths.{Paths}
use Rattle.forecast.specs.declared.Outlook.{Outlook}

-- after i addresses
abbrev pub SumFits : ℕ → Sum → Type 0
SumFits i s = (s.references ≤ 35 * i) × (s.exits ≤ 2 * i)

abbrev pub PathsFit : ℕ → Paths → Type 0
PathsFit i p = (p.used ≤ 65536) × (p.count ≤ i)

abbrev pub OutlookFits : ℕ → Outlook → Type 0
OutlookFits i o = SumFits i o.sum × PathsFit i o.paths
