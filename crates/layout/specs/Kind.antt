-- The kind that a byte stands for.
use Rattle.std.specs.Prelude.{Bool, cond, ℕ, Result, Ok, Err}
use Rattle.layout.specs.declared.kind.Kind.{Kind}
use Rattle.layout.specs.declared.kind.Kind.TheVariants.{Root, Upstream, Downstream, Endpoint}
use Rattle.layout.specs.declared.kind.UnknownKind.{UnknownKind}
use Rattle.rules.specs.Snapshot.{is_root, is_upstream, is_downstream, is_endpoint}

-- kinds: 1 root port, 2 switch upstream port, 3 switch downstream port, 4 endpoint
abbrev pub kind_of : ℕ → Result Kind UnknownKind
kind_of byte =
    cond (is_root byte) (Ok Root)
    (cond (is_upstream byte) (Ok Upstream)
    (cond (is_downstream byte) (Ok Downstream)
    (cond (is_endpoint byte) (Ok Endpoint) (Err (record { 0 = byte })))))

-- the byte stands for this kind
abbrev pub is_kind : Kind → ℕ → Bool
is_kind Root byte = is_root byte
is_kind Upstream byte = is_upstream byte
is_kind Downstream byte = is_downstream byte
is_kind Endpoint byte = is_endpoint byte
