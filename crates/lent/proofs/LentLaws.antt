-- Laws of lent bytes. A store past the end changes nothing, so only laws that read a byte ask for room.
use native.Mathlib.Nat.{mod-eq_of_lt, zero-div}
use Rattle.rows.{proofs.Kit.{ℕ, zero, suc, ◌+◌, ◌-◌, ◌*◌, ◌/◌, ◌%◌, ◌^◌, ◌≤◌, ◌<◌, add-zero, zero-add, not-suc-le-zero, le_of_suc-le-suc, dec_lt, arith, ◌≡◌, refl, sym, ap, ◌∙◌, Bool, true, cond, ◌&&◌, and-false, List, [], ◌∷◌, eqb, leb, ltb, length, get_or, set, get_or-eq_default, eqb-true, leb-true, ltb-true, eq-eqb, ne_eqb, le-leb, lt-leb, lt-ltb, le-ltb}, proofs.Bools.{same_test, and_parts, cond_same}, proofs.BelowLaws.sum_cong}
use Rattle.le.{specs.Le.{byte_at, le_at, byte_of}, proofs.BytesLaws.bytes_say}
use Rattle.lent.specs.Lent.{each_from, each, bytes_put, word_put, words_put, row_put, rows_put, numbers_put}

-- ---- each byte from place i on

from_length : (i : ℕ) (f : ℕ → ℕ → ℕ) (b : List ℕ) → length (each_from i f b) ≡ length b
unfolding each_from
from_length i f [] = refl
from_length i f (x ∷ b) = ap suc (from_length (suc i) f b)

from_same : (i : ℕ) (f g : ℕ → ℕ → ℕ) (b : List ℕ) → ((j x : ℕ) → i ≤ j → f j x ≡ g j x) → each_from i f b ≡ each_from i g b
unfolding each_from
from_same i f g [] h = refl
from_same i f g (x ∷ b) h = rw (h i x (omega arith), from_same (suc i) f g b (λ j y l. h j y (omega arith)))

from_keeps : (i : ℕ) (f : ℕ → ℕ → ℕ) (b : List ℕ) → ((j x : ℕ) → i ≤ j → f j x ≡ x) → each_from i f b ≡ b
unfolding each_from
from_keeps i f [] h = refl
from_keeps i f (x ∷ b) h = rw (h i x (omega arith), from_keeps (suc i) f b (λ j y l. h j y (omega arith)))

from_each : (i : ℕ) (f g : ℕ → ℕ → ℕ) (b : List ℕ) → each_from i g (each_from i f b) ≡ each_from i (λ j x. g j (f j x)) b
unfolding each_from
from_each i f g [] = refl
from_each i f g (x ∷ b) = rw (from_each (suc i) f g b)

from_set : (i k v : ℕ) (b : List ℕ) → set b k v ≡ each_from i (λ j x. cond (eqb j (i + k)) v x) b
unfolding each_from
from_set i k v [] = refl
from_set i zero v (x ∷ b) =
    rw (eq-eqb i (i + 0) (omega arith), from_keeps (suc i) (λ j y. cond (eqb j (i + 0)) v y) b (λ j y l. rw (ne_eqb j (i + 0) (λ q. omega arith))))
from_set i (suc k) v (x ∷ b) =
    let z : i + suc k ≡ suc i + k = omega arith in
    rw (ne_eqb i (i + suc k) (λ q. omega arith), from_set (suc i) k v b, z)

from_at : (i : ℕ) (f : ℕ → ℕ → ℕ) (b : List ℕ) (j : ℕ) → j < length b → get_or (each_from i f b) j 0 ≡ f (i + j) (get_or b j 0)
unfolding each_from
from_at i f [] j l = absurd (not-suc-le-zero l)
from_at i f (x ∷ b) zero l = rw (add-zero i)
from_at i f (x ∷ b) (suc j) l = let z : suc i + j ≡ i + suc j = omega arith in rw (← z) (from_at (suc i) f b j (le_of_suc-le-suc l))

-- a byte that f leaves as it is
from_keep : (i : ℕ) (f : ℕ → ℕ → ℕ) (b : List ℕ) (j : ℕ) → ((x : ℕ) → f (i + j) x ≡ x) → get_or (each_from i f b) j 0 ≡ get_or b j 0
unfolding each_from
from_keep i f [] j h = refl
from_keep i f (x ∷ b) zero h = rw add-zero at (h x)
from_keep i f (x ∷ b) (suc j) h = from_keep (suc i) f b j (let z : i + suc j ≡ suc i + j = omega arith in rw z at h)

-- a store, past the end too
each_set : (k v : ℕ) (b : List ℕ) → set b k v ≡ each (λ j x. cond (eqb j k) v x) b
each_set k v b = rw zero-add at (from_set 0 k v b)

-- ---- bytes put at the places from a up to e

in_range : (a e j : ℕ) → a ≤ j → j < e → (leb a j && ltb j e) ≡ true
in_range a e j l h = rw (le-leb a j l, lt-ltb j e h)

range_in : (a e j : ℕ) → (leb a j && ltb j e) ≡ true → (a ≤ j) × (j < e)
range_in a e j h = let (p, q) = and_parts (leb a j) (ltb j e) h in (leb-true a j p, ltb-true j e q)

pub put_length : (a e : ℕ) (f : ℕ → ℕ) (b : List ℕ) → length (bytes_put a e f b) ≡ length b
unfolding bytes_put
put_length a e f b = from_length 0 _ b

pub put_same : (a e : ℕ) (f g : ℕ → ℕ) (b : List ℕ) → ((j : ℕ) → a ≤ j → j < e → f j ≡ g j) → bytes_put a e f b ≡ bytes_put a e g b
unfolding bytes_put
put_same a e f g b h =
    from_same 0 _ _ b (λ j x _. cond_same (leb a j && ltb j e) (f j) (g j) x x (λ t. let (l, k) = range_in a e j t in h j l k) (λ t. refl))

pub put_none : (a : ℕ) (f : ℕ → ℕ) (b : List ℕ) → bytes_put a a f b ≡ b
unfolding bytes_put
put_none a f b =
    from_keeps 0 _ b (λ j x _. elim (dec_lt j a) [ yes l ↦ rw (lt-leb a j l) | no l ↦ rw (le-ltb j a (omega arith), and-false (leb a j)) ])

-- bytes put behind those that were put
pub put_join : (a s e : ℕ) (f g : ℕ → ℕ) (b : List ℕ) → a ≤ s → s ≤ e → ((j : ℕ) → s ≤ j → j < e → g j ≡ f j)
    → bytes_put s e g (bytes_put a s f b) ≡ bytes_put a e f b
unfolding bytes_put
put_join a s e f g b l k h =
    from_each 0 _ _ b ∙ from_same 0 _ _ b (λ j x _.
    elim (dec_lt j s) [
      | yes m ↦ rw (lt-leb s j m, lt-ltb j s m, lt-ltb j e (omega arith))
      | no m ↦
          rw (le-leb s j (omega arith), le-ltb j s (omega arith), le-leb a j (omega arith))
          (cond_same (ltb j e) (g j) (f j) x x (λ t. h j (omega arith) (ltb-true j e t)) (λ t. refl))
    ])

pub put_set : (k v : ℕ) (b : List ℕ) → set b k v ≡ bytes_put k (k + 1) (λ _. v) b
unfolding bytes_put
put_set k v b =
    each_set k v b ∙ from_same 0 _ _ b (λ j x _. ap (λ (t : Bool). cond t v x)
    (same_test (eqb j k) (leb k j && ltb j (k + 1))
    (λ t. let e = eqb-true j k t in in_range k (k + 1) j (omega arith) (omega arith))
    (λ t. let (p, q) = range_in k (k + 1) j t in eq-eqb j k (omega arith))))

-- one byte more: a turn of the loop of `put_bytes`
pub byte_more : (i : ℕ) (f : ℕ → ℕ) (b : List ℕ) → set (bytes_put 0 i f b) i (f i) ≡ bytes_put 0 (i + 1) f b
byte_more i f b =
    put_set i (f i) _ ∙ put_join 0 i (i + 1) f (λ _. f i) b (omega arith) (omega arith) (λ j l h. let z : j ≡ i = omega arith in rw z)

pub put_at : (a e : ℕ) (f : ℕ → ℕ) (b : List ℕ) (j : ℕ) → a ≤ j → j < e → j < length b → get_or (bytes_put a e f b) j 0 ≡ f j
unfolding bytes_put
put_at a e f b j l k h = rw (from_at 0 _ b j h, zero-add, in_range a e j l k)

-- ---- a word

-- the stores of `put_word`, up to byte k
abbrev pub stores : ℕ → List ℕ → ℕ → ℕ → List ℕ
stores zero b at v = set b at (v % 256)
stores (suc k) b at v = set (stores k b at v) (at + suc k) (v / 256 ^ suc k % 256)

stores_put : (k at v : ℕ) (b : List ℕ) → stores k b at v ≡ bytes_put at (at + suc k) (λ j. byte_of (j - at) v) b
unfolding byte_of
stores_put zero at v b =
    put_set at (v % 256) b
    ∙ put_same at (at + 1) _ _ b (λ j l h. let z : j - at ≡ 0 = omega arith in rw z (omega arith))
stores_put (suc k) at v b =
    let z : at + suc (suc k) ≡ at + suc k + 1 = omega arith in
    rw (stores_put k at v b, z)
    (put_set (at + suc k) (v / 256 ^ suc k % 256) _
    ∙ put_join at (at + suc k) (at + suc k + 1) _ _ b (omega arith) (omega arith) (λ j l h. let y : j - at ≡ suc k = omega arith in rw y))

pub put_word : (w v : ℕ) (b : List ℕ) → stores 7 b (8 * w) v ≡ word_put w v b
unfolding word_put
put_word w v b = stores_put 7 (8 * w) v b

pub word_length : (w v : ℕ) (b : List ℕ) → length (word_put w v b) ≡ length b
unfolding word_put
word_length w v b = put_length _ _ _ b

-- a word put behind bytes that were put
word_joins : (a w v : ℕ) (f : ℕ → ℕ) (b : List ℕ) → a ≤ 8 * w → ((j : ℕ) → 8 * w ≤ j → j < 8 * w + 8 → byte_of (j - 8 * w) v ≡ f j)
    → word_put w v (bytes_put a (8 * w) f b) ≡ bytes_put a (8 * w + 8) f b
unfolding word_put
word_joins a w v f b l h = put_join a (8 * w) (8 * w + 8) f _ b l (omega arith) h

-- ---- a word for each index

pub words_length : (first n : ℕ) (word : ℕ → ℕ) (b : List ℕ) → length (words_put first n word b) ≡ length b
unfolding words_put
words_length first n word b = put_length _ _ _ b

pub words_none : (first : ℕ) (word : ℕ → ℕ) (b : List ℕ) → words_put first 0 word b ≡ b
unfolding words_put
words_none first word b = rw add-zero (put_none (8 * first) _ b)

-- one word more: a turn of a loop
pub words_more : (first n v : ℕ) (word : ℕ → ℕ) (b : List ℕ) → v ≡ word (first + n) → word_put (first + n) v (words_put first n word b) ≡ words_put first (n + 1) word b
unfolding words_put
words_more first n v word b e =
    let z : 8 * (first + (n + 1)) ≡ 8 * (first + n) + 8 = omega arith in
    rw z
    (word_joins (8 * first) (first + n) v (λ j. byte_of (j % 8) (word (j / 8))) b (omega arith)
    (λ j h g.
    let p : j - 8 * (first + n) ≡ j % 8 = omega arith in
    let q : j / 8 ≡ first + n = omega arith in
    rw (p, q, e)))

-- words behind those that were put
pub words_join : (first m n : ℕ) (word : ℕ → ℕ) (b : List ℕ) → words_put (first + m) n word (words_put first m word b) ≡ words_put first (m + n) word b
unfolding words_put
words_join first m n word b =
    let z : first + m + n ≡ first + (m + n) = omega arith in
    rw z (put_join (8 * first) (8 * (first + m)) (8 * (first + (m + n))) _ _ b (omega arith) (omega arith) (λ j l h. refl))

pub words_same : (first n : ℕ) (word other : ℕ → ℕ) (b : List ℕ) → ((k : ℕ) → first ≤ k → k < first + n → word k ≡ other k) → words_put first n word b ≡ words_put first n other b
unfolding words_put
words_same first n word other b h = put_same _ _ _ _ b (λ j l g. rw (h (j / 8) (omega arith) (omega arith)))

-- bytes behind the words keep their contents
pub words_keep : (first n : ℕ) (word : ℕ → ℕ) (b : List ℕ) (j : ℕ) → 8 * (first + n) ≤ j → get_or (words_put first n word b) j 0 ≡ get_or b j 0
unfolding words_put bytes_put
words_keep first n word b j h = from_keep 0 _ b j (λ x. rw (zero-add, le-ltb j (8 * (first + n)) h, and-false (leb (8 * first) j)))

byte_zero : (k : ℕ) → byte_of k 0 ≡ 0
unfolding byte_of
byte_zero k = rw (zero-div (256 ^ k))

-- the bytes with 0 at the first `end` places: a turn of the loop of `clear_words`, and its end
pub clear_more : (i : ℕ) (b : List ℕ) → set (bytes_put 0 i (λ _. 0) b) i 0 ≡ bytes_put 0 (i + 1) (λ _. 0) b
clear_more i b = byte_more i (λ _. 0) b

pub clear_all : (n : ℕ) (b : List ℕ) → bytes_put 0 (8 * n) (λ _. 0) b ≡ words_put 0 n (λ _. 0) b
unfolding words_put
clear_all n b = rw zero-add (put_same 0 (8 * n) _ _ b (λ j l h. sym (byte_zero (j % 8))))

-- ---- numbers

-- the bytes with the first k numbers
unfoldable pub first_put : ℕ → List ℕ → List ℕ → List ℕ
first_put k numbers b = bytes_put 0 (8 * k) (λ j. byte_of (j % 8) (get_or numbers (j / 8) 0)) b

pub first_none : (numbers b : List ℕ) → first_put 0 numbers b ≡ b
unfolding first_put
first_none numbers b = put_none 0 _ b

-- one number more: a turn of the loop of `put_numbers`
pub first_more : (k : ℕ) (numbers b : List ℕ) → word_put k (get_or numbers k 0) (first_put k numbers b) ≡ first_put (k + 1) numbers b
unfolding first_put
first_more k numbers b =
    let z : 8 * (k + 1) ≡ 8 * k + 8 = omega arith in
    rw z
    (word_joins 0 k (get_or numbers k 0) _ b (omega arith)
    (λ j h g.
    let p : j - 8 * k ≡ j % 8 = omega arith in
    let q : k ≡ j / 8 = omega arith in
    rw (p, q)))

pub numbers_all : (numbers b : List ℕ) → length numbers ≤ length b / 8 → first_put (length numbers) numbers b ≡ numbers_put numbers b
unfolding first_put numbers_put
numbers_all numbers b l = rw (le-leb (length numbers) (length b / 8) l)

pub numbers_kept : (numbers b : List ℕ) → length b / 8 < length numbers → b ≡ numbers_put numbers b
unfolding numbers_put
numbers_kept numbers b l = rw (lt-leb (length numbers) (length b / 8) l)

pub numbers_length : (numbers b : List ℕ) → length (numbers_put numbers b) ≡ length b
unfolding numbers_put
numbers_length numbers b = elim (dec_lt (length b / 8) (length numbers)) [
  | yes l ↦ rw (lt-leb (length numbers) (length b / 8) l)
  | no l ↦ rw (le-leb (length numbers) (length b / 8) (omega arith)) (put_length _ _ _ b)
]

-- ---- a row

-- byte j of a row of eight words
unfoldable pub row_byte : List ℕ → ℕ → ℕ
row_byte words j = byte_of (j % 8) (get_or words (j / 8 % 8) 0)

-- the bytes with the first k words of row n
unfoldable pub lead_put : ℕ → ℕ → List ℕ → List ℕ → List ℕ
lead_put k n words b = bytes_put (64 * n) (64 * n + 8 * k) (row_byte words) b

pub lead_none : (n : ℕ) (words b : List ℕ) → lead_put 0 n words b ≡ b
unfolding lead_put
lead_none n words b = let z : 64 * n + 8 * 0 ≡ 64 * n = omega arith in rw z (put_none (64 * n) (row_byte words) b)

-- one word more: a turn of the loop of `put_words`
pub lead_more : (k n : ℕ) (words b : List ℕ) → k < 8 → word_put (8 * n + k) (get_or words k 0) (lead_put k n words b) ≡ lead_put (k + 1) n words b
unfolding lead_put row_byte
lead_more k n words b l =
    let w : ℕ = 8 * n + k in
    let y : 64 * n + 8 * k ≡ 8 * w = omega arith in
    let z : 64 * n + 8 * (k + 1) ≡ 8 * w + 8 = omega arith in
    rw (y, z)
    (word_joins (64 * n) w (get_or words k 0) (row_byte words) b (omega arith)
    (λ j h g.
    let p : j - 8 * w ≡ j % 8 = omega arith in
    let q : k ≡ j / 8 % 8 = omega arith in
    rw (p, q)))

pub lead_all : (n : ℕ) (words b : List ℕ) → lead_put 8 n words b ≡ row_put n words b
unfolding lead_put row_put row_byte
lead_all n words b = refl

-- ---- rows

-- byte j of the rows' words
unfoldable rows_byte : (ℕ → List ℕ) → ℕ → ℕ
rows_byte row j = byte_of (j % 8) (get_or (row (j / 64)) (j / 8 % 8) 0)

rows_put_lem : (count : ℕ) (row : ℕ → List ℕ) (b : List ℕ) → rows_put count row b ≡ bytes_put 0 (64 * count) (rows_byte row) b
unfolding rows_put bytes_put rows_byte
rows_put_lem count row b = from_same 0 _ _ b (λ j x _. rw (le-leb 0 j (omega arith)))

pub rows_length : (count : ℕ) (row : ℕ → List ℕ) (b : List ℕ) → length (rows_put count row b) ≡ length b
unfolding rows_put
rows_length count row b = from_length 0 _ b

pub rows_none : (row : ℕ → List ℕ) (b : List ℕ) → rows_put 0 row b ≡ b
rows_none row b = rows_put_lem 0 row b ∙ put_none 0 (rows_byte row) b

pub rows_more : (n : ℕ) (row : ℕ → List ℕ) (b : List ℕ) → rows_put (n + 1) row b ≡ row_put n (row n) (rows_put n row b)
unfolding row_put rows_byte
rows_more n row b =
    let z : 64 * (n + 1) ≡ 64 * n + 64 = omega arith in
    rw (rows_put_lem (n + 1) row b, rows_put_lem n row b, z)
    (sym (put_join 0 (64 * n) (64 * n + 64) (rows_byte row) (λ j. byte_of (j % 8) (get_or (row n) (j / 8 % 8) 0)) b (omega arith) (omega arith)
    (λ j h g. let p : n ≡ j / 64 = omega arith in rw p)))

-- by equal rows
pub rows_same : (count : ℕ) (row other : ℕ → List ℕ) (b : List ℕ) → ((n : ℕ) → n < count → row n ≡ other n) → rows_put count row b ≡ rows_put count other b
unfolding rows_byte
rows_same count row other b h =
    rows_put_lem count row b
    ∙ put_same 0 (64 * count) (rows_byte row) (rows_byte other) b (λ j l g. rw (h (j / 64) (omega arith)))
    ∙ sym (rows_put_lem count other b)

-- rows that were put into other bytes, copied
pub rows_copied : (count : ℕ) (row : ℕ → List ℕ) (z b : List ℕ) → 64 * count ≤ length z → bytes_put 0 (64 * count) (λ j. byte_at (rows_put count row z) j) b ≡ rows_put count row b
rows_copied count row z b h =
    rw (rows_put_lem count row b, rows_put_lem count row z)
    (put_same 0 (64 * count) _ _ b (λ j l g. put_at 0 (64 * count) (rows_byte row) z j l g (omega arith)))

-- ---- words read back

module _ (count : ℕ) (row : ℕ → List ℕ) (b : List ℕ) (room : 64 * count ≤ length b) where
  byte_is : (n k m : ℕ) → n < count → k < 8 → m < 8 → byte_at (rows_put count row b) (64 * n + 8 * k + m) ≡ byte_of m (get_or (row n) k 0)
  unfolding rows_byte
  byte_is n k m l h g =
      let j : ℕ = 64 * n + 8 * k + m in
      let x : j / 64 ≡ n = omega arith in
      let y : j / 8 % 8 ≡ k = omega arith in
      let z : j % 8 ≡ m = omega arith in
      rw (rows_put_lem count row b, put_at 0 (64 * count) (rows_byte row) b j (omega arith) (omega arith) (omega arith), x, y, z)

  word_said : (n k : ℕ) → n < count → k < 8 → le_at 8 (rows_put count row b) (64 * n + 8 * k) ≡ get_or (row n) k 0 % 256 ^ 8
  unfolding le_at
  word_said n k l h = sum_cong 8 _ _ (λ m g. ap (λ x. 256 ^ m * x) (byte_is n k m l h g)) ∙ bytes_say 8 (get_or (row n) k 0)

  -- word k of row n is item k of the row
  pub word_is : (n k : ℕ) → n < count → k < 8 → get_or (row n) k 0 < 18446744073709551616 → le_at 8 (rows_put count row b) (64 * n + 8 * k) ≡ get_or (row n) k 0
  word_is n k l h g = word_said n k l h ∙ mod-eq_of_lt g

-- a word that was put for an index
pub put_word_is : (first n k : ℕ) (word : ℕ → ℕ) (b : List ℕ) → 8 * (first + n) ≤ length b → k < n → word (first + k) < 18446744073709551616
    → le_at 8 (words_put first n word b) (8 * (first + k)) ≡ word (first + k)
unfolding le_at words_put
put_word_is first n k word b room l h =
    sum_cong 8 _ _ (λ m g.
    let j : ℕ = 8 * (first + k) + m in
    let y : j / 8 ≡ first + k = omega arith in
    let z : j % 8 ≡ m = omega arith in
    ap (λ x. 256 ^ m * x) (rw (put_at (8 * first) (8 * (first + n)) (λ j. byte_of (j % 8) (word (j / 8))) b j (omega arith) (omega arith) (omega arith), y, z)))
    ∙ bytes_say 8 (word (first + k)) ∙ mod-eq_of_lt h

-- equal rows, under whatever numbers, are the same words
pub same_words : (count count2 : ℕ) (row row2 : ℕ → List ℕ) (b b2 : List ℕ) → 64 * count ≤ length b → 64 * count2 ≤ length b2
    → (n n2 k : ℕ) → n < count → n2 < count2 → k < 8 → row n ≡ row2 n2 → le_at 8 (rows_put count row b) (64 * n + 8 * k) ≡ le_at 8 (rows_put count2 row2 b2) (64 * n2 + 8 * k)
same_words count count2 row row2 b b2 r r2 n n2 k l l2 h e =
    word_said count row b r n k l h ∙ ap (λ (r : List ℕ). get_or r k 0 % 256 ^ 8) e ∙ sym (word_said count2 row2 b2 r2 n2 k l2 h)

-- bytes behind the rows keep their contents
pub rows_keep : (count : ℕ) (row : ℕ → List ℕ) (b : List ℕ) (j : ℕ) → 64 * count ≤ j → get_or (rows_put count row b) j 0 ≡ get_or b j 0
unfolding rows_put
rows_keep count row b j l = go (dec_lt j (length b))
  where
    go : Dec (j < length b) → get_or (rows_put count row b) j 0 ≡ get_or b j 0
    go (yes h) = from_at 0 _ b j h ∙ rw (zero-add, le-ltb j (64 * count) l)
    go (no h) =
        rw (get_or-eq_default (rows_put count row b) 0 {n = j} (rw (rows_length count row b) (omega arith)), get_or-eq_default b 0 {n = j} (omega arith))
