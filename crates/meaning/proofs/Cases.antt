-- The cases hold, by computation.
use mathlib.Core.Path.{refl}
use mathlib.Core.List.{flat_map, flatten}
use Rattle.meaning.specs.Basics.{tab, in?, same, from}
use Rattle.meaning.specs.Job.{rows_of, terms, vars_of, holds, binder, unbound, item_at}
use Rattle.meaning.specs.Reading.{places_at, term_at, bad_term, out_of_range, literal_in, unbound_test, unbound_in, counted, refusals, first, added, placed, after, unbound_head, finish, read_from, reading}
use Rattle.meaning.specs.Counter.{ahead, before?}
use Rattle.meaning.specs.Relevant.{fill, unsolved, relevant?, relevant, compare, passes}
use Rattle.meaning.specs.Rows.{cell, laid, value, values, fits_item, fits, count_item, count}
use Rattle.meaning.specs.List.{support, positives, entry_size, cells, listed, enlist}
use Rattle.meaning.specs.Plain.{sum, plain, plain_count, each, list_whole, lay_row, from_row, try_item, plain_search}
use Rattle.meaning.specs.Group.{share, gathered, others, parts, group}
use Rattle.meaning.specs.Walk.{binds, variables_of, variables, ran_out, back, go_back, go_on, whole, enter, make_test, start, steps, stop, walk}
use Rattle.meaning.specs.Ground.{ground_by}
use Rattle.meaning.specs.Cases.{table, Right}

pub cases : Right table
unfolding flat_map flatten tab in? same from rows_of terms vars_of holds binder unbound item_at places_at term_at bad_term out_of_range literal_in unbound_test unbound_in counted refusals first added placed after unbound_head finish read_from reading fill unsolved relevant? relevant ahead before? compare passes cell laid value values fits_item fits count_item count support positives entry_size cells listed enlist sum plain plain_count each list_whole lay_row from_row try_item plain_search share gathered others parts group binds variables_of variables ran_out back go_back go_on whole enter make_test start steps stop walk ground_by
cases = refl
