-- The laws of port::pass: what a port entered going down does with a TLP, where the code leaves it.
use mathlib.Core.Path.{◌≡◌}
use mathlib.Core.Bool.{true, false}
use mathlib.Core.List.{List}
use Prim.Native.Nat.{ℕ}
use Rattle.rules.specs.declared.Landing.TheVariants.{Arrives, Nobody}
use Rattle.rules.specs.declared.Down.{Down}
use Rattle.rules.specs.declared.Down.TheVariants.{Into, Lands, Alone}
use Rattle.rules.specs.declared.Tlp.{Tlp}
use Rattle.rules.specs.Snapshot.{kind, is_endpoint}
use Rattle.rules.specs.Fabric.{shape_of}
use Rattle.rules.specs.Cover.{covers, child_for, way_on}
use Rattle.rules.specs.Route.{through_child, next_down}
use Rattle.std.specs.Prelude.{Some, None}

module _ (s : List ℕ) (t : Tlp) (c : ℕ) {d : Down} where
  pub child_not : covers (shape_of s) t c ≡ false → d ≡ Lands (Nobody c) → d ≡ through_child (shape_of s) t c
  unfolding through_child
  child_not n h = rw n h

  module _ (claims : covers (shape_of s) t c ≡ true) where
    pub child_end : is_endpoint (kind s c) ≡ true → d ≡ Lands (Arrives c) → d ≡ through_child (shape_of s) t c
    unfolding through_child shape_of
    child_end e h = rw (claims, e) h

    pub child_on : {q : ℕ} → is_endpoint (kind s c) ≡ false → way_on (shape_of s) t c ≡ Some q → d ≡ Into q → d ≡ through_child (shape_of s) t c
    unfolding through_child shape_of
    child_on e w h = rw (claims, e, w) h

    pub child_stuck : is_endpoint (kind s c) ≡ false → way_on (shape_of s) t c ≡ None → d ≡ Lands (Nobody c) → d ≡ through_child (shape_of s) t c
    unfolding through_child shape_of
    child_stuck e w h = rw (claims, e, w) h

module _ (s : List ℕ) (t : Tlp) (p : ℕ) {d : Down} where
  pub next_child : {c : ℕ} → child_for (shape_of s) t p ≡ Some c → d ≡ through_child (shape_of s) t c → d ≡ next_down (shape_of s) t p
  unfolding next_down
  next_child f h = rw f h

  pub next_alone : child_for (shape_of s) t p ≡ None → d ≡ Alone → d ≡ next_down (shape_of s) t p
  unfolding next_down
  next_alone f h = rw f h
