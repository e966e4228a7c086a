-- How the check of a delta image goes from start to start.
use Rattle.std.specs.Prelude.{◌≡◌, ℕ, suc, ◌*◌, ◌<◌, ◌≤◌, List, length}
use Rattle.delta_image.specs.Images.{start_in}

-- start k may follow a start at `last`
pub record NextStart (image : List ℕ) (k last : ℕ) : Type 0 where
  pub whole : 2 * suc k ≤ length image
  pub first : k ≡ 0 → start_in image k ≡ 130
  pub rise : 0 < k → last ≤ start_in image k
  pub end : k ≡ 64 → start_in image k ≡ length image
