-- The saved slots of a row, written out.
use Rattle.std.proofs.Common.{◌≡◌, ℕ, List, [], ◌∷◌, length, get_or, refl, ap, ◌∙◌, append-nil}
use Rattle.std.specs.List.{flat_map}
use Rattle.std.proofs.lemmas.List.FromFn.{fill_by_all}
use Rattle.frame_map.specs.Texts.{slot_word, saved_text}

-- a list of eight, written out
pub eight : (xs : List ℕ) → length xs ≡ 8 → xs ≡ get_or xs 0 0 ∷ get_or xs 1 0 ∷ get_or xs 2 0 ∷ get_or xs 3 0 ∷ get_or xs 4 0 ∷ get_or xs 5 0 ∷ get_or xs 6 0 ∷ get_or xs 7 0 ∷ []
eight xs h = fill_by_all (λ k. get_or xs k 0) xs 8 0 h (λ k l. refl)

-- slot by slot
pub slots_flat : (xs : List ℕ) → length xs ≡ 8 → flat_map slot_word xs ≡ saved_text xs
unfolding saved_text
slots_flat xs h = ap (flat_map slot_word) (eight xs h) ∙ simp append-nil
