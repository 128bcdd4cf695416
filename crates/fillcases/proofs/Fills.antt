-- The worked cases of request 2/13 come out as document 02 says, each by computation.
use mathlib.Core.Path.{refl}
use mathlib.Core.List.{List, [], ◌∷◌, ◌++◌}
use Rattle.rules.specs.Image.{window, memory_window, upper_half, prefetchable_window, structure_at, is_among, follow, acs_structure}
use Rattle.rules.specs.Refuse.{through}
use Rattle.rules.specs.Bytes.{bytes_from, le_bytes, laid}
use Rattle.rules.specs.Fill.{range_bytes, filled, whole_sizes, listed as listedFill, filling}
use Rattle.fillcases.specs.Fills.{Case, Done, given, Every, image, a5, left, listed, none, bad, silent, windows, sized}
use Rattle.fillcases.specs.Fills.{lists, offsets, sizes, ranges, lengths, fills}

-- every rule that a fill computes through
unfoldable computes : Case → Done
unfolding window memory_window upper_half prefetchable_window structure_at is_among follow acs_structure
    through bytes_from le_bytes range_bytes laid filled whole_sizes listedFill filling image a5 left listed none bad silent windows sized
computes c = given c

lists_right : Every lists
unfolding computes lists
lists_right = (refl, (refl, (refl, (refl, (refl, (refl, (refl, (refl, (refl, (refl, (refl, (refl, tt))))))))))))

offsets_right : Every offsets
unfolding computes offsets
offsets_right = (refl, (refl, (refl, (refl, (refl, (refl, (refl, (refl, tt))))))))

sizes_right : Every sizes
unfolding computes sizes
sizes_right = (refl, (refl, (refl, (refl, (refl, (refl, (refl, tt)))))))

ranges_right : Every ranges
unfolding computes ranges
ranges_right = (refl, (refl, (refl, (refl, (refl, (refl, (refl, (refl, (refl, (refl, tt))))))))))

lengths_right : Every lengths
unfolding computes lengths
lengths_right = (refl, (refl, (refl, (refl, (refl, (refl, (refl, tt)))))))

-- one table after the other
join : (a b : List Case) → Every a → Every b → Every (a ++ b)
join [] b p q = q
join (c ∷ a) b (r, p) q = (r, join a b p q)

pub filled_as_said : Every fills
unfolding fills
filled_as_said =
    join (lists ++ offsets ++ sizes ++ ranges) lengths
    (join (lists ++ offsets ++ sizes) ranges
    (join (lists ++ offsets) sizes
    (join lists offsets lists_right offsets_right) sizes_right) ranges_right) lengths_right
