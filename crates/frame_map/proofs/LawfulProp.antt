-- Lawfulness is a proposition, so that a truncated fact of it can be used.
use Rattle.std.proofs.Common.{ℕ, List}
use mathlib.Core.HLevel.{⊥_prop, Π_prop, ×_prop}
use native.Mathlib.Bridge.{le_prop}
use native.Mathlib.Nat.{ℕ_set}
use Rattle.frame_map.specs.Rows.{Slot, Sized, Slotted, Saved, Masked, Lawful}
use Rattle.frame_map.specs.Tables.{Table, entry_at}
use Rattle.frame_map.specs.declared.row.Entry.{Entry}
use Rattle.frame_map.specs.declared.row.Row.{Row}

slot_prop : (r : Row) (i : ℕ) → IsProp (Slot r i)
slot_prop r i = ×_prop le_prop le_prop

sized_prop : (r : Row) → IsProp (Sized r)
sized_prop r x y = λ i. record { some = le_prop x.some y.some i; most = le_prop x.most y.most i }

slotted_prop : (r : Row) → IsProp (Slotted r)
slotted_prop r = Π_prop (λ i. Π_prop (λ _. slot_prop r i))

saved_prop : (r : Row) → IsProp (Saved r)
saved_prop r x y = λ i. record {
  eight = ℕ_set _ _ x.eight y.eight i;
  inside = Π_prop (λ k. Π_prop (λ _. slot_prop r _)) x.inside y.inside i;
  apart = Π_prop (λ j. Π_prop (λ k. Π_prop (λ _. Π_prop (λ _. Π_prop (λ _. ⊥_prop))))) x.apart y.apart i;
  plain = Π_prop (λ k. Π_prop (λ _. Π_prop (λ _. ⊥_prop))) x.plain y.plain i;
}

masked_prop : (r : Row) → IsProp (Masked r)
masked_prop r x y = λ i. record {
  sixteen = le_prop x.sixteen y.sixteen i;
  eight = le_prop x.eight y.eight i;
  disjoint = Π_prop (λ k. Π_prop (λ _. Π_prop (λ _. ⊥_prop))) x.disjoint y.disjoint i;
}

pub lawful_prop : (r : Row) → IsProp (Lawful r)
lawful_prop r x y = λ i. record {
  sized = sized_prop r x.sized y.sized i;
  slotted = slotted_prop r x.slotted y.slotted i;
  saves = saved_prop r x.saves y.saves i;
  masked = masked_prop r x.masked y.masked i;
}

-- and so is being a table
pub table_prop : (es : List Entry) → IsProp (Table es)
table_prop es x y = λ i. record {
  few = le_prop x.few y.few i;
  lawful = Π_prop (λ j. Π_prop (λ _. lawful_prop (entry_at es j).row)) x.lawful y.lawful i;
  points = Π_prop (λ j. Π_prop (λ _. ×_prop le_prop le_prop)) x.points y.points i;
  rises = Π_prop (λ j. Π_prop (λ k. Π_prop (λ _. Π_prop (λ _. le_prop)))) x.rises y.rises i;
}
