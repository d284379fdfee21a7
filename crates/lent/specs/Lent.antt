-- Bytes that a caller lends, changed byte by byte; and words in them, eight bytes each, little-endian.
use Rattle.std.specs.Prelude.{ℕ, suc, ◌+◌, ◌-◌, ◌*◌, ◌/◌, ◌%◌, cond, ◌&&◌, List, [], ◌∷◌, leb, ltb, length, get_or}
use Rattle.le.specs.Le.{byte_of}

-- the byte x at place j becomes f j x; i is the place of the list's first byte
unfoldable pub each_from : ℕ → (ℕ → ℕ → ℕ) → List ℕ → List ℕ
each_from i f [] = []
each_from i f (x ∷ b) = f i x ∷ each_from (suc i) f b

abbrev pub each : (ℕ → ℕ → ℕ) → List ℕ → List ℕ
each f b = each_from 0 f b

-- the lent bytes with f j at each place j from `first` up to, not including, `end`
unfoldable pub bytes_put : ℕ → ℕ → (ℕ → ℕ) → List ℕ → List ℕ
bytes_put first end f b = each (λ j x. cond (leb first j && ltb j end) (f j) x) b

-- with v as word w
unfoldable pub word_put : ℕ → ℕ → List ℕ → List ℕ
word_put w v b = bytes_put (8 * w) (8 * w + 8) (λ j. byte_of (j - 8 * w) v) b

-- with `word k` as word k, for the n words from word `first` on. Every other byte keeps its contents
unfoldable pub words_put : ℕ → ℕ → (ℕ → ℕ) → List ℕ → List ℕ
words_put first n word b = bytes_put (8 * first) (8 * (first + n)) (λ j. byte_of (j % 8) (word (j / 8))) b

-- with eight words as row n
unfoldable pub row_put : ℕ → List ℕ → List ℕ → List ℕ
row_put n words b = bytes_put (64 * n) (64 * n + 64) (λ j. byte_of (j % 8) (get_or words (j / 8 % 8) 0)) b

-- the lent bytes with rows of eight words in front: word k of row n is item k of `row n`, for the `count` rows from 0 on. Bytes behind them keep their contents
unfoldable pub rows_put : ℕ → (ℕ → List ℕ) → List ℕ → List ℕ
rows_put count row b =
    each (λ j x. cond (ltb j (64 * count)) (byte_of (j % 8) (get_or (row (j / 64)) (j / 8 % 8) 0)) x) b

-- the lent bytes with numbers as words in front, one behind the other; as they were where fewer words are lent. Bytes short of a word don't count
unfoldable pub numbers_put : List ℕ → List ℕ → List ℕ
numbers_put numbers b =
    cond (leb (length numbers) (length b / 8))
    (bytes_put 0 (8 * length numbers) (λ j. byte_of (j % 8) (get_or numbers (j / 8) 0)) b)
    b
