-- Numbers in bytes and back, and lists of bytes. Assumes nothing.
use mathlib.Core.List.{List, [], ◌∷◌, ◌++◌}
use mathlib.Core.Path.{◌≡◌, refl, sym, ap, ap₂, ◌∙◌}
use Prim.Native.Nat.{ℕ, zero, suc, ◌/◌, ◌%◌, ◌^◌, ◌<◌, ◌+◌, ◌*◌}
use native.Mathlib.Nat.{mod-lt, div-lt_iff_lt-mul, pow-suc}
use native.Mathlib.Omega.{arith}
use lib.Dec.{lit<}
use lib.ListN.{length, take, replicate, drop}
use Rattle.paper.specs.Chip.{put}
use Rattle.paper.specs.Slip.{bytes_of, number_of}
use Rattle.paper.specs.Fifo.{Bytes}

pub number_bytes : (k n : ℕ) → n < 256 ^ k → number_of (bytes_of k n) ≡ n
unfolding number_of bytes_of
number_bytes zero n h = omega arith
number_bytes (suc k) n h =
    let q : n / 256 < 256 ^ k = (div-lt_iff_lt-mul {k = 256} {x = n} {y = 256 ^ k} (lit< tt)).1 (omega (arith, pow-suc 256 k)) in
    rw (number_bytes k (n / 256) q) (omega arith)

pub length_bytes : (k n : ℕ) → length (bytes_of k n) ≡ k
unfolding bytes_of
length_bytes zero n = refl
length_bytes (suc k) n = ap suc (length_bytes k (n / 256))

-- the bytes of a list's number are the list
bytes_number : (l : List ℕ) → Bytes l → bytes_of (length l) (number_of l) ≡ l
unfolding bytes_of number_of
bytes_number [] b = refl
bytes_number (x ∷ l) b =
    let h = b.0 in
    let p : (x + 256 * number_of l) % 256 ≡ x = omega arith in
    let q : (x + 256 * number_of l) / 256 ≡ number_of l = omega arith in
    ap₂ ◌∷◌ p (ap (bytes_of (length l)) q ∙ bytes_number l b.1)

pub number_back : (k n : ℕ) (l : List ℕ) → length l ≡ k → Bytes l → number_of l ≡ n → bytes_of k n ≡ l
number_back k n l e b q = ap₂ bytes_of (sym e) (sym q) ∙ bytes_number l b

pub bytes_bytes : (k n : ℕ) → Bytes (bytes_of k n)
unfolding bytes_of
bytes_bytes zero n = tt
bytes_bytes (suc k) n = (mod-lt n (lit< tt), bytes_bytes k (n / 256))

pub bytes_append : (a b : List ℕ) → Bytes a → Bytes b → Bytes (a ++ b)
bytes_append [] b p q = q
bytes_append (x ∷ a) b p q = (p.0, bytes_append a b p.1 q)

pub bytes_replicate : (k v : ℕ) → v < 256 → Bytes (replicate k v)
bytes_replicate zero v h = tt
bytes_replicate (suc k) v h = (h, bytes_replicate k v h)

pub bytes_take : (n : ℕ) (l : List ℕ) → Bytes l → Bytes (take n l)
bytes_take zero l h = tt
bytes_take (suc n) [] h = tt
bytes_take (suc n) (x ∷ l) h = (h.0, bytes_take n l h.1)

pub bytes_drop : (n : ℕ) (l : List ℕ) → Bytes l → Bytes (drop n l)
bytes_drop zero l h = h
bytes_drop (suc n) [] h = tt
bytes_drop (suc n) (x ∷ l) h = bytes_drop n l h.1

pub bytes_left : (a b : List ℕ) → Bytes (a ++ b) → Bytes a
bytes_left [] b h = tt
bytes_left (x ∷ a) b h = (h.0, bytes_left a b h.1)

pub bytes_right : (a b : List ℕ) → Bytes (a ++ b) → Bytes b
bytes_right [] b h = h
bytes_right (x ∷ a) b h = bytes_right a b h.1

pub put_bytes : (i : ℕ) (x l : List ℕ) → Bytes x → Bytes l → Bytes (put i x l)
unfolding put
put_bytes i x l b c =
    let r : List ℕ = drop (i + length x) l in
    bytes_append (take i l) (x ++ r) (bytes_take i l c) (bytes_append x r b (bytes_drop (i + length x) l c))
