-- What routing asks of an accepted snapshot, in two halves: the shape, which no setting of the control registers changes, and
-- the setting. Two snapshots that are alike but for Control registers and Egress Control Vectors have one shape.
use Rattle.std.specs.Prelude.{Bool, ◌&&◌, List, ℕ, leb}
use Rattle.rules.specs.declared.Tlp.{Tlp}
use Rattle.rules.specs.Below.{any_below}
use Rattle.rules.specs.Bytes.{bit}
use Rattle.rules.specs.Snapshot.{count, kind, port_number, parent, own_bus, devfn, secondary, subordinate, control, first, last, is_open, roots_reach}
use Rattle.rules.specs.Snapshot.{validation_reflects, vector_bit, bit_v, bit_b, bit_r, bit_c, bit_u, bit_e, bit_t}

pub record Shape : Type 0 where
  pub count : ℕ
  pub kind : ℕ → ℕ
  pub port_number : ℕ → ℕ
  pub parent : ℕ → ℕ
  pub own_bus : ℕ → ℕ
  pub devfn : ℕ → ℕ
  pub secondary : ℕ → ℕ
  pub subordinate : ℕ → ℕ
  -- an open range of the node has the address
  pub holds : ℕ → ℕ → Bool
  -- root ports may reach each other
  pub roots_reach : Bool
  -- redirected request validation reflects this request, else it blocks it
  pub reflects : Tlp → Bool

-- which controls are on at a port, and its vector bit of a number
pub record Setting : Type 0 where
  pub v : ℕ → Bool
  pub b : ℕ → Bool
  pub r : ℕ → Bool
  pub c : ℕ → Bool
  pub u : ℕ → Bool
  pub e : ℕ → Bool
  pub t : ℕ → Bool
  pub vector : ℕ → ℕ → Bool

-- the address is in open range k of i
unfoldable pub in_range : List ℕ → ℕ → ℕ → ℕ → Bool
in_range s i a k = is_open s i k && (leb (first s i k) a && leb a (last s i k))

unfoldable pub holds : List ℕ → ℕ → ℕ → Bool
holds s i a = any_below 6 (in_range s i a)

unfoldable pub shape_of : List ℕ → Shape
shape_of s =
    record {
      count = count s;
      kind = kind s;
      port_number = port_number s;
      parent = parent s;
      own_bus = own_bus s;
      devfn = devfn s;
      secondary = secondary s;
      subordinate = subordinate s;
      holds = holds s;
      roots_reach = roots_reach s;
      reflects = λ t. validation_reflects s;
    }

unfoldable pub setting_of : List ℕ → Setting
setting_of s =
    record {
      v = λ i. bit bit_v (control s i);
      b = λ i. bit bit_b (control s i);
      r = λ i. bit bit_r (control s i);
      c = λ i. bit bit_c (control s i);
      u = λ i. bit bit_u (control s i);
      e = λ i. bit bit_e (control s i);
      t = λ i. bit bit_t (control s i);
      vector = vector_bit s;
    }
