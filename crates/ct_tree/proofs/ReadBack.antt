-- What is read where something was written, and what two exchanges leave.
use Rattle.std.proofs.Common.{◌≡◌, ◌∙◌, ℕ, ◌+◌, ◌-◌, ◌<◌, ◌≤◌, List, [], ◌∷◌, ◌++◌, append_assoc, length, get_or, take, drop, refl, sym, ap, arith, inl, inr}
use Rattle.std.specs.Prelude.{replicate, ◌⊎◌}
use Rattle.std.proofs.lemmas.Bool.{cases_lt}
use Rattle.std.proofs.lemmas.List.{length-take, length-drop, length-append, get_or-take, get_or-drop, get_or_append_left, get_or-append_right, ext_get_or}
use Rattle.std.proofs.Math.Seq.{take-append_seam, drop-append_seam}
use Rattle.ct_tree.specs.Content.{range, resized, written}
use Rattle.ct_tree.proofs.Exchanges.{written_within}
use Rattle.ct_tree.proofs.Ordered.{resized_length}

-- a read of what was written gives it
pub range-written : (old : List ℕ) (off : ℕ) (bytes : List ℕ) → range (written old off bytes) off (length bytes) ≡ bytes
range-written old off [] = refl
range-written old off (b ∷ bytes) =
    let front = resized off old in
    let after = drop (off + length {A = ℕ} (b ∷ bytes)) old in
    let past : drop off ((front ++ (b ∷ bytes)) ++ after) ≡ (b ∷ bytes) ++ after =
    ap (λ l. drop off l) (append_assoc front (b ∷ bytes) after)
    ∙ ap (λ n. drop n (front ++ ((b ∷ bytes) ++ after))) (sym (resized_length off old)) ∙ drop-append_seam front ((b ∷ bytes) ++ after) in
    ap (take (length {A = ℕ} (b ∷ bytes))) past ∙ take-append_seam (b ∷ bytes) after

pub range_all : (bytes : List ℕ) (off len : ℕ) → off + len ≤ length bytes → length (range bytes off len) ≡ len
range_all bytes off len fits = omega (arith, length-take len (drop off bytes), length-drop off bytes)

range-at : (bytes : List ℕ) (off len k : ℕ) → k < len → get_or (range bytes off len) k 0 ≡ get_or bytes (off + k) 0
range-at bytes off len k lt = get_or-take len (drop off bytes) k 0 lt ∙ get_or-drop off bytes k 0

-- bytes that are written within a file: each place
written-in : (old : List ℕ) (off : ℕ) (bytes : List ℕ) (k : ℕ) → off + length bytes ≤ length old → k < length bytes → get_or (written old off bytes) (off + k) 0 ≡ get_or bytes k 0
written-in old off [] k fits lt = absurd (omega arith)
written-in old off (b ∷ bytes) k fits lt =
    let front = resized off old in
    let after = drop (off + length {A = ℕ} (b ∷ bytes)) old in
    let size = resized_length off old in
    get_or_append_left (front ++ (b ∷ bytes)) after 0 (off + k) (omega (arith, lt, size, length-append front (b ∷ bytes)))
    ∙ get_or-append_right front (b ∷ bytes) off (off + k) 0 size (omega arith) ∙ ap (λ n. get_or (b ∷ bytes) n 0) (omega arith)

written-before : (old : List ℕ) (off : ℕ) (bytes : List ℕ) (k : ℕ) → off + length bytes ≤ length old → k < off → get_or (written old off bytes) k 0 ≡ get_or old k 0
written-before old off [] k fits lt = refl
written-before old off (b ∷ bytes) k fits lt =
    let front = resized off old in
    let after = drop (off + length {A = ℕ} (b ∷ bytes)) old in
    let size = resized_length off old in
    get_or_append_left (front ++ (b ∷ bytes)) after 0 k (omega (arith, lt, size, length-append front (b ∷ bytes)))
    ∙ get_or_append_left front (b ∷ bytes) 0 k (omega (arith, lt, size))
    ∙ get_or_append_left (take off old) (replicate (off - length old) 0) 0 k (omega (arith, lt, fits, length-take off old)) ∙ get_or-take off old k 0 lt

written-after : (old : List ℕ) (off : ℕ) (bytes : List ℕ) (k : ℕ) → off + length bytes ≤ k → get_or (written old off bytes) k 0 ≡ get_or old k 0
written-after old off [] k le = refl
written-after old off (b ∷ bytes) k le =
    let front = resized off old in
    let end = off + length {A = ℕ} (b ∷ bytes) in
    get_or-append_right (front ++ (b ∷ bytes)) (drop end old) end k 0 (omega (arith, resized_length off old, length-append front (b ∷ bytes))) le
    ∙ get_or-drop end old (k - end) 0 ∙ ap (λ n. get_or old n 0) (omega (arith, le))

written-out : (old : List ℕ) (off : ℕ) (bytes : List ℕ) (k : ℕ) → off + length bytes ≤ length old → (off ≤ k → off + length bytes ≤ k) → get_or (written old off bytes) k 0 ≡ get_or old k 0
written-out old off bytes k fits out = elim (cases_lt k off) [
  | inl lt ↦ written-before old off bytes k fits lt
  | inr le ↦ written-after old off bytes k (out le)
]

-- other bytes are written and then what was there
restored : (old bytes : List ℕ) (off : ℕ) → off + length bytes ≤ length old → written (written old off bytes) off (range old off (length bytes)) ≡ old
restored old bytes off fits =
    let once = written old off bytes in
    let same = written_within old off bytes fits in
    let back = range old off (length bytes) in
    let size = range_all old off (length bytes) fits in
    let fits' : off + length back ≤ length once = omega arith in
    ext_get_or 0 (written once off back) old (written_within once off back fits' ∙ same) (λ k lt. elim (cases_lt k off) [
      | inl before ↦ written-before once off back k fits' before ∙ written-before old off bytes k fits before
      | inr from ↦ elim (cases_lt k (off + length bytes)) [
        | inr past ↦ written-after once off back k (omega (arith, size, past)) ∙ written-after old off bytes k past
        | inl inside ↦
            let j = k - off in
            let at : k ≡ off + j = omega (arith, from) in
            ap (λ n. get_or (written once off back) n 0) at ∙ written-in once off back j fits' (omega (arith, size, at, inside)) ∙ range-at old off (length bytes) j (omega (arith, at, inside)) ∙ ap (λ n. get_or old n 0) (sym at)
      ]
    ])

-- in two files: each range is brought back from where the other went
pub exchanged_back : (one two : List ℕ) (off other len : ℕ) → off + len ≤ length one → other + len ≤ length two
    → written (written one off (range two other len)) off (range (written two other (range one off len)) other len) ≡ one
exchanged_back one two off other len a b =
    let there = range one off len in
    let size = range_all one off len a in
    let came = range two other len in
    let size' = range_all two other len b in
    let read : range (written two other there) other len ≡ there = ap (λ n. range (written two other there) other n) (sym size) ∙ range-written two other there in
    ap (λ x. written (written one off came) off x) (read ∙ ap (range one off) (sym size')) ∙ restored one came off (omega (arith, a, size'))

-- in one file: two ranges of it have changed places
record Turned (one new : List ℕ) (off other len : ℕ) : Type 0 where
  size : length new ≡ length one
  first : (k : ℕ) → k < len → get_or new (off + k) 0 ≡ get_or one (other + k) 0
  second : (k : ℕ) → k < len → get_or new (other + k) 0 ≡ get_or one (off + k) 0
  rest : (k : ℕ) → (off ≤ k → off + len ≤ k) → (other ≤ k → other + len ≤ k) → get_or new k 0 ≡ get_or one k 0

turned : (one : List ℕ) (off other len : ℕ) → off + len ≤ length one → other + len ≤ length one → (off + len ≤ other) ⊎ (other + len ≤ off)
    → Turned one (written (written one off (range one other len)) other (range one off len)) off other len
turned one off other len a b apart =
    let x = range one other len in
    let y = range one off len in
    let sx = range_all one other len b in
    let sy = range_all one off len a in
    let w = written one off x in
    let fx : off + length x ≤ length one = omega (arith, a, sx) in
    let same = written_within one off x fx in
    let fy : other + length y ≤ length w = omega (arith, b, sy, same) in
    let beside : (k : ℕ) → k < len → other ≤ off + k → other + length y ≤ off + k = λ k lt le. elim apart [ inl p ↦ absurd (omega (arith, p, lt, le)) | inr q ↦ omega (arith, q, sy) ] in
    record {
      size = written_within w other y fy ∙ same;
      first = λ k lt. written-out w other y (off + k) fy (beside k lt) ∙ written-in one off x k fx (omega (arith, lt, sx)) ∙ range-at one other len k lt;
      second = λ k lt. written-in w other y k fy (omega (arith, lt, sy)) ∙ range-at one off len k lt;
      rest = λ k p q. written-out w other y k fy (λ le. omega (arith, q le, sy)) ∙ written-out one off x k fx (λ le. omega (arith, p le, sx));
    }

turned_twice : (one new last : List ℕ) (off other len : ℕ) → Turned one new off other len → Turned new last off other len → last ≡ one
turned_twice one new last off other len t u =
    ext_get_or 0 last one (u.size ∙ t.size) (λ k lt. elim (cases_lt k off) [
      | inl below ↦ elsewhere k (λ le. absurd (omega (arith, le, below)))
      | inr from ↦ elim (cases_lt k (off + len)) [
        | inr past ↦ elsewhere k (λ le. past)
        | inl inside ↦
            let j = k - off in
            let at : k ≡ off + j = omega (arith, from) in
            let few : j < len = omega (arith, at, inside) in
            ap (λ n. get_or last n 0) at ∙ u.first j few ∙ t.second j few ∙ ap (λ n. get_or one n 0) (sym at)
      ]
    ])
  where
    elsewhere : (k : ℕ) → (off ≤ k → off + len ≤ k) → get_or last k 0 ≡ get_or one k 0
    elsewhere k out = elim (cases_lt k other) [
      | inl below ↦ let q : other ≤ k → other + len ≤ k = λ le. absurd (omega (arith, le, below)) in u.rest k out q ∙ t.rest k out q
      | inr from ↦ elim (cases_lt k (other + len)) [
        | inr past ↦ u.rest k out (λ le. past) ∙ t.rest k out (λ le. past)
        | inl inside ↦
            let j = k - other in
            let at : k ≡ other + j = omega (arith, from) in
            let few : j < len = omega (arith, at, inside) in
            ap (λ n. get_or last n 0) at ∙ u.second j few ∙ t.first j few ∙ ap (λ n. get_or one n 0) (sym at)
      ]
    ]

abbrev pub turned_in : List ℕ → ℕ → ℕ → ℕ → List ℕ
turned_in one off other len = written (written one off (range one other len)) other (range one off len)

pub turned_length : (one : List ℕ) (off other len : ℕ) → off + len ≤ length one → other + len ≤ length one → (off + len ≤ other) ⊎ (other + len ≤ off) → length (turned_in one off other len) ≡ length one
turned_length one off other len a b apart = (turned one off other len a b apart).size

pub turned_back : (one : List ℕ) (off other len : ℕ) → off + len ≤ length one → other + len ≤ length one → (off + len ≤ other) ⊎ (other + len ≤ off)
    → turned_in (turned_in one off other len) off other len ≡ one
turned_back one off other len a b apart =
    let t = turned one off other len a b apart in
    let s = t.size in
    turned_twice one (turned_in one off other len) (turned_in (turned_in one off other len) off other len) off other len t
    (turned (turned_in one off other len) off other len (omega (arith, a, s)) (omega (arith, b, s)) apart)
