-- Text in a buffer.
use Rattle.std.specs.Prelude.{◌≡◌, List, ℕ, ◌+◌, ◌≤◌, length}
use Rattle.words.specs.Bytes.{put_at}

-- there is room for the bytes bs from the place k on
pub record Room (k : ℕ) (bs l : List ℕ) : Type 0 where
  pub fits : k + length bs ≤ length l

-- the buffer l has become m, with the bytes bs from the place k on, and r is the place behind them
pub record Written (k : ℕ) (bs l m : List ℕ) (r : ℕ) : Type 0 where
  pub bytes : m ≡ put_at k bs l
  pub behind : r ≡ k + length bs
