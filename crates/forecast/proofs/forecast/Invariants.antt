-- The loop's invariant: what is left of the list comes to the whole forecast, and after i addresses the sums are those of i at most.
use mathlib.Core.Path.{◌≡◌}
use Prim.Native.Nat.{◌-◌, ◌≤◌}
use lib.ListN.{length, drop}
use Rattle.layout.specs.Layout.{config}
use Rattle.marks.specs.Table.{keys}
use Rattle.forecast.specs.Fits.{OutlookFits}
use Rattle.forecast.specs.Forecast.{list_of, forecast_of}
use Rattle.forecast.proofs.forecast.Given as goal

abbrev pub invariant-loop-i : goal.invariant-loop-i
invariant-loop-i l = (OutlookFits l.i l.at) × (l.i ≤ length l.addresses)
    × (list_of (config l.space.layout) l.space.top l.mem l.held l.root.0 (keys l.place l.set) l.room l.at (drop l.i l.addresses) ≡ forecast_of (config l.space.layout) l.space.top l.mem l.held l.root.0 (keys l.place l.set) l.addresses)

abbrev pub decreases-loop-i : goal.decreases-loop-i
decreases-loop-i l = length l.addresses - l.i
