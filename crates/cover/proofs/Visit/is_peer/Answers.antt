use borrow.Author.Tests.{eqb-true}
use Rattle.cover.proofs.CoverLaws.{peer_yes, peer_apart, peer_no_port, peer_itself}
use Rattle.cover.proofs.Visit.is_peer.Goals.{then-parent, else-parent, then-is_port, else-is_port}
use Rattle.cover.proofs.Visit.is_peer.Goals as goal

pub returns-then-q-self : goal.returns-then-q-self
returns-then-q-self c =
    elim c.if-is_port.branch [
      | then-is_port w ↦ elim c.if-parent.branch [
        | then-parent v ↦ peer_yes _ _ _ _ (cc) (cc) (cc) (cc)
        | else-parent v ↦ absurd (v.if-parent.false (eqb-true _ _ (cc)))
      ]
      | else-is_port w ↦ cc
    ]

pub returns-else-q-self : goal.returns-else-q-self
returns-else-q-self c =
    elim c.if-is_port.branch [
      | then-is_port w ↦ peer_itself _ _ _ _ (cc) (cc)
      | else-is_port w ↦ elim c.if-parent.branch [
        | then-parent v ↦ peer_no_port _ _ _ _ (cc) (cc)
        | else-parent v ↦ peer_apart _ _ _ _ (λ e. v.if-parent.false (cc)) (cc)
      ]
    ]
