-- As many links are climbed as levels stand above n; the release's way then says only whether it met damage.
use native.Mathlib.Omega.{arith}
use Rattle.drops.specs.Drop.{settle_of}
use Rattle.drops.proofs.settle.Goals as goal

pub release-went-requires : goal.release-went-requires
release-went-requires c =
    let pre = c.requires in
    (pre.1, rw c.shadow_area.ensures (omega (arith, pre.0)))

pub returns-in-To : goal.returns-in-To
unfolding settle_of
returns-in-To c =
    let shadow-area = c.shadow_area in
    let links = c.links in
    let release = c.release-went in
    rw (← shadow-area.ensures, ← links.ensures, ← release.ensures, c.in-To.is)

pub returns-in-Not : goal.returns-in-Not
unfolding settle_of
returns-in-Not c =
    let shadow-area = c.shadow_area in
    let links = c.links in
    let release = c.release-went in
    rw (← shadow-area.ensures, ← links.ensures, ← release.ensures, c.in-Not.is)

pub returns-in-Damaged : goal.returns-in-Damaged
unfolding settle_of
returns-in-Damaged c =
    let shadow-area = c.shadow_area in
    let links = c.links in
    let release = c.release-went in
    rw (← shadow-area.ensures, ← links.ensures, ← release.ensures, c.in-Damaged.is)
