-- Four tests in the rule's order: the held frame, the top host table, the host pool, the shadow pool.
use Rattle.record.specs.Record.{pools_fit, tables_fit}
use Rattle.record.proofs.tables_fit.Goals as goal

pub returns-then-not-held_fits : goal.returns-then-not-held_fits
unfolding tables_fit
returns-then-not-held_fits c =
    let held_fits = c.held_fits in
    let if1 = c.if-not-held_fits in
    rw (← held_fits.ensures, if1.true)

pub returns-then-not-is_table : goal.returns-then-not-is_table
unfolding tables_fit pools_fit
returns-then-not-is_table c =
    let held_fits = c.held_fits in
    let if1 = c.if-not-held_fits in
    let is_table_lem = c.is_table in
    let if2 = c.if-not-is_table in
    rw (← held_fits.ensures, if1.false, ← is_table_lem.ensures, if2.true)

pub returns-then-not-pool_fits : goal.returns-then-not-pool_fits
unfolding tables_fit pools_fit
returns-then-not-pool_fits c =
    let held_fits = c.held_fits in
    let if1 = c.if-not-held_fits in
    let is_table_lem = c.is_table in
    let if2 = c.if-not-is_table in
    let pool_fits_lem = c.pool_fits in
    let if3 = c.if-not-pool_fits in
    rw (← held_fits.ensures, if1.false, ← is_table_lem.ensures, if2.false, ← pool_fits_lem.ensures, if3.true)

pub returns : goal.returns
unfolding tables_fit pools_fit
returns c =
    let held_fits = c.held_fits in
    let if1 = c.if-not-held_fits in
    let is_table_lem = c.is_table in
    let if2 = c.if-not-is_table in
    let pool_fits_lem = c.pool_fits in
    let if3 = c.if-not-pool_fits in
    let pool-fits2 = c.pool_fits-2 in
    rw (← held_fits.ensures, if1.false, ← is_table_lem.ensures, if2.false, ← pool_fits_lem.ensures, if3.false) pool-fits2.ensures
