-- Pages of zeros, which have no lines.
use Rattle.std.proofs.Common.{◌≡◌, ◌∙◌, ℕ, zero, suc, ◌+◌, ◌-◌, ◌*◌, ◌/◌, ◌%◌, ◌≤◌, Bool, true, false, List, [], ◌∷◌, ◌++◌, length, take, drop, refl, sym, ap, arith, if◌then◌else◌}
use Rattle.std.specs.Prelude.{◌==◌, ◌&&◌, nat_le}
use Rattle.std.proofs.lemmas.Bool.Decides.{nat_tests}
use Rattle.std.proofs.lemmas.List.{drop-take, drop-drop}
use Rattle.ct_tree.specs.Content.{range}
use Rattle.ct_dump.specs.Dumped.{are_zeros, page_text, pages_text, page_count, write_line}

both : (b c : Bool) → (b && c) ≡ true → (b ≡ true) × (c ≡ true)
both true c h = (refl, h)
both false c h = absurd (cc)

joined : (b c : Bool) → b ≡ true → c ≡ true → (b && c) ≡ true
joined true c h k = k
joined false c h k = absurd (cc)

zeros_take : (n m : ℕ) (xs : List ℕ) → m ≤ n → are_zeros (take n xs) ≡ true → are_zeros (take m xs) ≡ true
zeros_take n zero xs h z = refl
zeros_take zero (suc m) xs h z = absurd (omega (arith, h))
zeros_take (suc n) (suc m) [] h z = refl
zeros_take (suc n) (suc m) (x ∷ xs) h z =
    let b = both (x == 0) (are_zeros (take n xs)) z in
    joined (x == 0) (are_zeros (take m xs)) b.0 (zeros_take n m xs (omega (arith, h)) b.1)

zeros_drop : (n : ℕ) (xs : List ℕ) → are_zeros xs ≡ true → are_zeros (drop n xs) ≡ true
zeros_drop zero xs z = z
zeros_drop (suc n) [] z = refl
zeros_drop (suc n) (x ∷ xs) z = zeros_drop n xs (both (x == 0) (are_zeros xs) z).1

-- so many pages of zeros have no lines
skip : (path bytes : List ℕ) (k c off : ℕ) → are_zeros (take (k * 4096) (drop off bytes)) ≡ true → pages_text path bytes (k + c) off ≡ pages_text path bytes c (off + k * 4096)
skip path bytes zero c off z =
    let none : 0 + c ≡ c = omega arith in
    let here : off ≡ off + 0 * 4096 = omega arith in
    ap (λ n. pages_text path bytes n off) none ∙ ap (pages_text path bytes c) here
skip path bytes (suc k) c off z =
    let first : are_zeros (range bytes off 4096) ≡ true = zeros_take (suc k * 4096) 4096 (drop off bytes) (omega arith) z in
    let split : drop 4096 (take (4096 + k * 4096) (drop off bytes)) ≡ take (k * 4096) (drop (off + 4096) bytes) =
    drop-take 4096 (k * 4096) (drop off bytes) ∙ ap (take (k * 4096)) (drop-drop 4096 off bytes) in
    let one_more : suc k + c ≡ suc (k + c) = omega arith in
    let pages : 4096 + k * 4096 ≡ suc k * 4096 = omega arith in
    let there : off + 4096 + k * 4096 ≡ off + suc k * 4096 = omega arith in
    let more : are_zeros (take (k * 4096) (drop (off + 4096) bytes)) ≡ true =
    ap are_zeros (sym split) ∙ zeros_drop 4096 (take (4096 + k * 4096) (drop off bytes)) (ap (λ n. are_zeros (take n (drop off bytes))) pages ∙ z) in
    ap (λ n. pages_text path bytes n off) one_more
    ∙ ap (λ b. (if b then [] else write_line path off (range bytes off 4096)) ++ pages_text path bytes (k + c) (off + 4096)) first
    ∙ skip path bytes k c (off + 4096) more ∙ ap (pages_text path bytes c) there

-- the lines of the pages from an offset on
abbrev pub rest_text : List ℕ → List ℕ → ℕ → List ℕ
rest_text path bytes off = pages_text path bytes (page_count (length bytes - off)) off

pub skipped : (path bytes : List ℕ) (off to : ℕ) → off % 4096 ≡ 0 → to % 4096 ≡ 0 → off ≤ to → are_zeros (range bytes off (to - off)) ≡ true → rest_text path bytes off ≡ rest_text path bytes to
skipped path bytes off to a b h z = at (nat_le to (length bytes)) refl
  where
    len : ℕ
    len = length bytes

    k : ℕ
    k = (to - off) / 4096

    at : (t : Bool) → nat_le to (length bytes) ≡ t → rest_text path bytes off ≡ rest_text path bytes to
    at true e =
        let fits : to ≤ length bytes = grind (arith, nat_tests) in
        ap (λ n. pages_text path bytes n off) (count_is fits)
        ∙ skip path bytes k (page_count (length bytes - to)) off (ap (λ n. are_zeros (take n (drop off bytes))) k_is ∙ z)
        ∙ ap (pages_text path bytes (page_count (length bytes - to))) (to_is)
      where
        k_is : k * 4096 ≡ to - off
        k_is = omega (arith, a, b, h)

        to_is : off + k * 4096 ≡ to
        to_is = omega (arith, a, b, h)

        count_is : to ≤ length bytes → page_count (length bytes - off) ≡ k + page_count (length bytes - to)
        count_is fits = omega (arith, a, b, h, fits)
    at false e =
        let past : length bytes ≤ to = grind (arith, nat_tests) in
        let all : ℕ = page_count (length bytes - off) in
        ap (λ n. pages_text path bytes n off) (no_more all)
        ∙ skip path bytes all 0 off (zeros_take (to - off) (all * 4096) (drop off bytes) (omega (arith, a, b, h, past)) z)
        ∙ sym (ap (λ n. pages_text path bytes n to) (none_there past))
      where
        no_more : (n : ℕ) → n ≡ n + 0
        no_more n = omega arith

        none_there : length bytes ≤ to → page_count (length bytes - to) ≡ 0
        none_there past = omega (arith, past)

-- one page and the rest
pub page_then : (path bytes : List ℕ) (off : ℕ) → off + 1 ≤ length bytes → rest_text path bytes off ≡ page_text path off (range bytes off 4096) ++ rest_text path bytes (off + 4096)
page_then path bytes off h =
    let more : page_count (length bytes - off) ≡ suc (page_count (length bytes - (off + 4096))) = omega (arith, h) in
    ap (λ n. pages_text path bytes n off) more

-- past the end there are none
pub none_left : (path bytes : List ℕ) (off : ℕ) → length bytes ≤ off → rest_text path bytes off ≡ []
none_left path bytes off h =
    let none : page_count (length bytes - off) ≡ 0 = omega (arith, h) in
    ap (λ n. pages_text path bytes n off) none
