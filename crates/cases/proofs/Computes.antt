-- Every rule that a worked case's answer computes through. `computes` on a proof's `unfolding` line opens them all.
use Rattle.rules.specs.Below.{all_below, any_below, find_from}
use Rattle.rules.specs.Bytes.{be}
use Rattle.rules.specs.Records.{kind_fine, parent_fine, only_child, blank_fine, own_bus_fine}
use Rattle.rules.specs.Records.{bus_order_fine, buses_meet, buses_apart, numbers_meet, numbers_apart}
use Rattle.rules.specs.Records.{sized, span_fine, range_fine, ranges_fine, overlap, own_ranges_apart, ranges_meet, ranges_apart, inside, nested_fine}
use Rattle.rules.specs.Records.{fine, faulty, lowest_faulty}
use Rattle.rules.specs.Fabric.{in_range, holds, shape_of, setting_of}
use Rattle.rules.specs.Tlp.{address, crosses, header_fine, target_of, tlp_of}
use Rattle.rules.specs.Cover.{covers, is_peer, peer_of, is_entry, entry_for, is_child, child_for, is_way_on, way_on}
use Rattle.rules.specs.Decide.{blocks, at_the_top, sent_up, bad_source, bad_translation, own_range, turns_back, peer_handling}
use Rattle.rules.specs.Decide.{direct, handled, to_peer, past_parent, onward, decide}
use Rattle.rules.specs.Route.{Trip, through_child, next_down, down_from, down, from_top, up_from, up, start, route}
use Rattle.rules.specs.Refuse.{Result, through, begun, known_version, well_made, in_time, is_origin, fits, routed, result}
use Rattle.cases.specs.Worked.{Case, given}

unfoldable pub computes : Case → Result Trip
unfolding all_below any_below find_from be
    kind_fine parent_fine only_child blank_fine own_bus_fine bus_order_fine buses_meet buses_apart numbers_meet numbers_apart
    sized span_fine range_fine ranges_fine overlap own_ranges_apart ranges_meet ranges_apart inside nested_fine fine faulty lowest_faulty
    in_range holds shape_of setting_of address crosses header_fine target_of tlp_of
    covers is_peer peer_of is_entry entry_for is_child child_for is_way_on way_on
    blocks at_the_top sent_up bad_source bad_translation own_range turns_back peer_handling direct handled to_peer past_parent onward decide
    through_child next_down down_from down from_top up_from up start route
    through begun known_version well_made in_time is_origin fits routed result
computes c = given c
