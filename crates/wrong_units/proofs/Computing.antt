-- Names for what has to be opened to compute a call of the unit: one of them on an `unfolding` line opens all the definitions that it
-- names. `specifying` does so for a step of the specification.
-- Assumes nothing.
use Prim.Native.Nat.{ℕ}
use lib.Count.{ones}
use Rattle.spec.specs.Entry.{switch}
use Rattle.spec.specs.Bits.{lacks}
use Rattle.spec.specs.Refusal.{record_fits}
use Rattle.spec.specs.Computing.{specifying}
use Rattle.bits.specs.Bit.{places}
use Rattle.words.specs.Words.{zeroed}
use Rattle.pool.specs.Header.{entry_at_of, high_of, put_entry_of, guest_of, level_of, parent_of, slot_of, written, header_of, inside_of, bare_of}
use Rattle.pool.specs.Pool.{link, follow_of, none_of, with_top, fresh_of, freed_of, take_of}
use Rattle.area.specs.Tree.{lookup_of, room_of, new_table_of, new_top_of, enter_of, attach_of, descend_of, down_of, place_of, insert_of}
use Rattle.prune.specs.Remove.{detach_of, release_top, release_of, last_index}
use Rattle.area_laws.specs.Host.{host_entry}
use Rattle.layout.specs.Layout.{leaf_of}
use Rattle.host.specs.Walk.{host_walk_of}
use Rattle.host.specs.Map.{map_of}
use Rattle.walk.specs.Memory.{memory_world, walked_of, into_of, noted, passed, passed_root, trail_from, root_trail}
use Rattle.marks.specs.Table as marks
use Rattle.marks.specs.Key.{low_page, key_of, level_at, search_of}
use Rattle.marks.specs.Reading.{marks_of, mark_of}
use Rattle.choice.specs.Window as window
use Rattle.choice.specs.Order.{order_fits, choice_fits, automatic_at, leaving_of, without_of, with_of, moved_of}
use Rattle.choice.specs.Reading as shows
use Rattle.choice.specs.Refusal.{owned_in, room_in, set_refusal, clear_refusal}
use Rattle.record.specs.Record.{is_table, pool_fits, pools_fit, choices_fit, fits_of, head_root, head_tables, head_tally, with_marks}
use Rattle.shadow.specs.Held.{held_of, entry_for}
use Rattle.shadow.specs.Fill.{fill_of}
use Rattle.shadow.specs.Watch.{watches_of, watched_from, watched_of}
use Rattle.drops.specs.Cut.{is_leaf, kind_of, lead_in, link_up_of, links_up_of}
use Rattle.drops.specs.Drop.{goes_of, clear_one_of, clear_leaves_of, settle_of, sweep_of, visit_of, scan_from, scan_of, table_named, holder_of, drop_prefix_of}
use Rattle.charge.specs.Charge as charge
use Rattle.automatic.specs.Moves as automatic
use Rattle.accessed.specs.Entries.{tables_in, seen_of}
use Rattle.translate.specs.Translate.{walked_depth, may_turn, turned_depth, depth_of, direct_of, served_of, plain_of, checked_of, through_of, unshadowed_of, serves_of, found_of, filled_of, passes_of, verdict_of, arrived_of, missed_of, translate_of}
use Rattle.request.specs.Access as access
use Rattle.forecast.specs.Forecast as forecast
use Rattle.calls.specs.Calls.{head_held, head_host, translated_of, load_call, store_call, device_call, root_call, unmapped_of, map_call, charged_in, charge_at, store_charged_of, set_mark_call, clear_mark_call, forecast_call, call_of}

-- a call of the unit, but for what puts a path into an area
unfoldable pub besides : ℕ
unfolding specifying ones level_at switch record_fits entry_at_of high_of put_entry_of guest_of level_of parent_of slot_of written header_of inside_of bare_of link follow_of none_of with_top lookup_of room_of host_entry leaf_of host_walk_of map_of memory_world walked_of into_of passed passed_root trail_from root_trail noted low_page key_of search_of marks.keys marks.inserted marks.table_of marks.with_key marks.without_key marks.place_in marks.place_of places marks_of mark_of is_table pool_fits pools_fit choices_fit window.shifted window.requested_of window.emptied_of window.charged_of window.unroll window.prefix_in window.charges_of order_fits choice_fits automatic_at leaving_of without_of with_of moved_of shows.bits shows.spread owned_in room_in set_refusal clear_refusal fits_of head_root head_tables head_tally with_marks held_of entry_for fill_of watches_of watched_from watched_of kind_of lead_in is_leaf link_up_of links_up_of goes_of clear_one_of clear_leaves_of settle_of sweep_of visit_of scan_from scan_of table_named holder_of drop_prefix_of charge.prefix_of charge.ends_at charge.visit_of charge.charged_from charge.charged_of automatic.marked_of automatic.withdrawn_of automatic.room_made_of automatic.appointed_of automatic.charged_of automatic.taken_over_of automatic.set_of automatic.cleared_of detach_of release_top release_of last_index lacks tables_in seen_of walked_depth may_turn turned_depth depth_of direct_of served_of plain_of checked_of through_of unshadowed_of serves_of found_of filled_of passes_of verdict_of arrived_of missed_of translate_of access.bits_of access.settled_of access.dropped_of access.load_of access.store_of access.device_of forecast.newest forecast.passes forecast.met_from forecast.filled_of forecast.paid forecast.held_after forecast.missed_of forecast.kept_of forecast.load_of forecast.address_of forecast.list_of forecast.forecast_of head_held head_host translated_of load_call store_call device_call root_call unmapped_of map_call charged_in charge_at store_charged_of set_mark_call clear_mark_call forecast_call call_of
besides = 0

-- a whole call
unfoldable pub calling : ℕ
unfolding besides zeroed fresh_of freed_of take_of new_table_of new_top_of enter_of attach_of descend_of down_of place_of insert_of
calling = 0
