-- The image that a source gave. Its limits are this project's own.
use Rattle.std.specs.Prelude.{◌≡◌, ◌≤◌, ◌+◌, ◌^◌, ◌++◌, ℕ, List, [], length}

-- some bytes of a source were taken from its front, never more than one past the most that an image has
pub record GavePart (before after : List ℕ) : Type 0 where
  pub front : List ℕ
  pub split : before ≡ front ++ after
  pub most : length front ≤ 2 ^ 28 + 1

-- This image was taken: all that the source had left. Of more than 2^28 bytes the first 2^28 + 1 were taken, by which it is known to be too long.
pub record GaveImage (image before after : List ℕ) : Type 0 where
  pub split : before ≡ image ++ after
  pub most : length image ≤ 2 ^ 28 + 1
  pub whole : length image ≤ 2 ^ 28 → after ≡ []
