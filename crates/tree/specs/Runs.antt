-- Filling slots and standing in runs are one thing, for every kind.
--
-- The test of a node's children (`fill`) puts them into slots one by one, since it has to compute. What it comes to is said
-- without steps by `Arranged`: one run of children for each slot, in order.
use Rattle.std.specs.Prelude.{◌≡◌, ℕ, true, List, Some}
use Rattle.nodes.specs.Shapes.{shape, fill, Arranged}
use Rattle.nodes.specs.declared.kind.Kind.{Kind}

pub record Same (kind : Kind) (ks : List ℕ) : Type 0 where
  pub sound : fill (Some (shape kind)) ks ≡ true → Arranged (shape kind) ks
  pub complete : Arranged (shape kind) ks → fill (Some (shape kind)) ks ≡ true

abbrev pub FillingIsArranging : Type 0
FillingIsArranging = (kind : Kind) (ks : List ℕ) → Same kind ks
