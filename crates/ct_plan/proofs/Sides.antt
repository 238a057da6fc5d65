-- Both sides of two ranges: the pieces are the same from either, so each side has its three wants.
use Rattle.std.proofs.Common.{◌≡◌, ℕ, zero, suc, ◌+◌, ◌-◌, ◌*◌, ◌/◌, ◌%◌, ◌^◌, ◌≤◌, Bool, true, false, cond, List, [], ◌∷◌, refl, ap, ◌∙◌}
use Rattle.std.specs.Prelude.{◌==◌, ◌&&◌, nat_le, nat_lt}
use Rattle.ct_base.specs.declared.inode.Inode.{Inode}
use Rattle.ct_base.specs.Pieces.{fits, height_at, pieces_from, pieces}
use Rattle.ct_base.specs.Plan.{side_wants, both_wants, cut_wants, stage, page_want}
use Rattle.ct_base.specs.Wants.{is_wanted, missing}
use Rattle.ct_plan.specs.Few.{few_wants, few_both_wants, few_cut_wants}
use Rattle.ct_plan.proofs.Short.{few_same}
use Rattle.ct_plan.proofs.Same.{missing_same, same_append}

and_swap : (p q r : Bool) → ((p && q) && r) ≡ ((q && p) && r)
and_swap true true r = refl
and_swap true false r = refl
and_swap false true r = refl
and_swap false false r = refl

fits-swap : (a b n i w : ℕ) → fits a b n i w ≡ fits b a n i w
fits-swap a b n i w = and_swap ((a + i) % w == 0) ((b + i) % w == 0) (nat_le (i + w) n)

height-swap : (a b n i : ℕ) → height_at a b n i ≡ height_at b a n i
unfolding height_at
height-swap a b n i =
    ap (λ t. cond t 3 (cond (fits a b n i (512 ^ 2)) 2 (cond (fits a b n i (512 ^ 1)) 1 0))) (fits-swap a b n i (512 ^ 3))
    ∙ ap (λ t. cond (fits b a n i (512 ^ 3)) 3 (cond t 2 (cond (fits a b n i (512 ^ 1)) 1 0))) (fits-swap a b n i (512 ^ 2))
    ∙ ap (λ t. cond (fits b a n i (512 ^ 3)) 3 (cond (fits b a n i (512 ^ 2)) 2 (cond t 1 0))) (fits-swap a b n i (512 ^ 1))

pieces_from-swap : (s a b n i : ℕ) → pieces_from s a b n i ≡ pieces_from s b a n i
pieces_from-swap zero a b n i = refl
pieces_from-swap (suc s) a b n i =
    ap (λ h. cond (nat_lt i n) ((i, h) ∷ pieces_from s a b n (i + 512 ^ h)) []) (height-swap a b n i)
    ∙ ap (λ rest. cond (nat_lt i n) ((i, height_at b a n i) ∷ rest) []) (pieces_from-swap s a b n (i + 512 ^ height_at b a n i))

-- the pieces are the same from either side
pub pieces-swap : (a b n : ℕ) → pieces a b n ≡ pieces b a n
pieces-swap a b n = pieces_from-swap n a b n 0

-- six wants for both sides
pub few_both_same : (a b n d x : ℕ) → 1 ≤ n → is_wanted (both_wants a b n) d x ≡ is_wanted (few_both_wants a b n) d x
few_both_same a b n d x some =
    same_append (side_wants a (pieces a b n)) (side_wants b (pieces a b n)) (few_wants a b n) (few_wants b a n) d x
    (few_same a b n d x some)
    (ap (λ ps. is_wanted (side_wants b ps) d x) (pieces-swap a b n) ∙ few_same b a n d x some)

pub few_cut_same : (f : Inode) (len d x : ℕ) → 1 ≤ 8 ^ f.level - len / 4096 → is_wanted (cut_wants f len) d x ≡ is_wanted (few_cut_wants f len) d x
few_cut_same f len d x some =
    same_append (both_wants (f.base / 4096 + len / 4096) (stage f.base / 4096 + len / 4096) (8 ^ f.level - len / 4096))
    (cond (len % 4096 == 0) [] (page_want ((stage f.base / 4096 + len / 4096) * 4096) ∷ []))
    (few_both_wants (f.base / 4096 + len / 4096) (stage f.base / 4096 + len / 4096) (8 ^ f.level - len / 4096))
    (cond (len % 4096 == 0) [] (page_want ((stage f.base / 4096 + len / 4096) * 4096) ∷ []))
    d x
    (few_both_same (f.base / 4096 + len / 4096) (stage f.base / 4096 + len / 4096) (8 ^ f.level - len / 4096) d x some)
    refl

pub few_both_missing : (img : List ℕ) (a b n : ℕ) → 1 ≤ n → missing img (both_wants a b n) ≡ missing img (few_both_wants a b n)
few_both_missing img a b n some = missing_same img (both_wants a b n) (few_both_wants a b n) (λ d x from to. few_both_same a b n d x some)

pub few_cut_missing : (img : List ℕ) (f : Inode) (len : ℕ) → 1 ≤ 8 ^ f.level - len / 4096 → missing img (cut_wants f len) ≡ missing img (few_cut_wants f len)
few_cut_missing img f len some = missing_same img (cut_wants f len) (few_cut_wants f len) (λ d x from to. few_cut_same f len d x some)
