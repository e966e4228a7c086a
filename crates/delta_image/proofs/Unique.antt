-- An image has at most one table, so that the table can be spoken of.
use Rattle.std.proofs.Common.{ℕ, List}
use mathlib.Core.HLevel.{Σ_prop_path}
use mathlib.Core.List.{is_set}
use mathlib.Core.Logic.{∥∥₁_elim}
use native.Mathlib.Nat.{ℕ_set}
use Rattle.frame_map.specs.declared.row.Entry.{Entry}
use Rattle.frame_map.proofs.LawfulProp.{table_prop}
use Rattle.delta_image.specs.Buckets.{DeltaMeans, delta_bytes}
use Rattle.delta_image.proofs.Exact.{table_unique}

means_prop : (w : List ℕ) (es : List Entry) → IsProp (DeltaMeans w es)
means_prop w es x y = λ i. record {
  table = table_prop es x.table y.table i;
  laid = is_set ℕ_set (delta_bytes es) w x.laid y.laid i;
}

pub one_table : (w : List ℕ) → IsProp ((es : List Entry) × DeltaMeans w es)
one_table w u v = Σ_prop_path (means_prop w) (table_unique w u.0 v.0 u.1 v.1)

-- the table of an image that has one
pub the_table : (w : List ℕ) → ∥ ((es : List Entry) × DeltaMeans w es) ∥₁ → ((es : List Entry) × DeltaMeans w es)
the_table w t = ∥∥₁_elim t (one_table w) (λ x. x)
