-- The machine values of a handle, and what it owns beside them.
use Rattle.std.proofs.Common.{◌≡◌, ℕ, Bool, true, false, List, [], ◌∷◌, ◌++◌, refl, sym, subst, lit<}
use lib.Dec.{T}
use seplogic.Ra.Ura.{Ura}
use mir.Syntax.{Ty, impl, tnil, dnil, ty_ptr}
use mir.Val.{Val, vbool, vstruct, vcons, vnil, of_list, has_ty, WT}
use base.Logic.{never, fst∗, id⊢}
use base.Fml.{ffalse}
use types.Logic.{Logic, sem}
use types.Kit.{Item, Goal, Seq, Step, step, ‵, ◌$◌, move, drop, fsplit, fjoin, fpick, fpack, feq_i, feq_l}
use denote.RattleType.{Valss}
use denote.Builtin.{RawPtr, bool}
use denote.Memory.{lone}
use denote.RawPtr.{Ptr, InBlock, block_ptr, null_ptr, ptr_val, in_a_block}
use denote.Steps.{nothing}
use denote.Struct.Struct.{within}
use denote.Struct.Owning.{shape, to}
use denote.Signature.{Slot, plain}
use mir.Raw.{raw as bare}
use Rattle.std.specs.Prelude.{Option, Some, None}
use Rattle.core.proofs.alloc.Calls.{Fits, handle_tells}
use Rattle.std_alloc.specs.Box.Ownership.{box_owns}
use Rattle.std_alloc.proofs.ResultValues.{and_tt}
use Rattle.std_alloc.proofs.BoxSteps.Form.{Bx}
use Rattle.std_heap.specs.contracts.Global as Heap
use Rattle.std_heap.specs.contracts.GlobalAllocator.TheImpl.{ghosts, dict}
use Rattle.std_heap.proofs.Global.TheLaws as heap
use Rattle.msa.specs.Owning.{seat_owns}
use Rattle.msa.specs.contracts.seat.Seat as Seat
use Rattle.msa.proofs.seat.Seat.TheLaws as seat
use Rattle.msa.specs.contracts.parts.Parts as Parts
use Rattle.msa.specs.contracts.handle.Handle as Handle

-- a box of a seat
abbrev pub E : Bx
E = record { row = Seat.the_row; laws = seat.the_row_laws; al = record { row = Heap.the_row; laws = heap.the_row_laws; g = ghosts; d = dict; drops = impl [] tnil dnil } }

abbrev pub FromGlobal : Slot 0
FromGlobal = plain (λ _. Heap.the_row)

abbrev pub FromParts : Slot 0
FromParts = plain (λ _. Parts.the_row Seat.the_row Heap.the_row ghosts)

abbrev pub FromHandle : Slot 0
FromHandle = plain (λ _. Handle.the_row)

abbrev pub word : Bool → Ptr → Val → Val
word t p h = vstruct (vcons (vbool t) (vcons (ptr_val p) (vcons h vnil)))

abbrev pub handle_ty : Ty
handle_ty = lone Handle.the_row.mir

pub handle_typed : (t : Bool) (p : Ptr) (h : Val) → Fits E.al h → T (has_ty handle_ty (word t p h)) × WT (word t p h)
handle_typed t (block_ptr b o) h fits = (and_tt (has_ty (lone Heap.the_row.mir) h) fits.0, (tt, (tt, (fits.1, tt))))
handle_typed t null_ptr h fits = (and_tt (has_ty (lone Heap.the_row.mir) h) fits.0, (tt, (record { fits = lit< tt }, (fits.1, tt))))

pub ptr_typed : (p : Ptr) → T (has_ty ty_ptr (ptr_val p)) × WT (ptr_val p)
ptr_typed (block_ptr b o) = (tt, tt)
ptr_typed null_ptr = (tt, record { fits = lit< tt })

module _ {M : Type 1} {𝓤 : Ura M} {𝓛 : Logic 𝓤} {K : Type 0} {Γ : List (Item 𝓤)} {G : Goal 𝓤 𝓛.H} where
  -- a handle by value is what its seat owns, and its allocator
  pub handle_out : K → (d : Handle.the_row.Denot) (vs : List Val)
      → ((h : Val) → vs ≡ word d.is_open d.at h ∷ [] → Fits E.al h → Seq K 𝓛 (‵ (seat_owns d.is_open d.alloc d.at d.seat) ∷ ‵ (Heap.the_row.own_val d.alloc (h ∷ [])) ∷ Γ) G)
      → Seq K 𝓛 (‵ (Handle.the_row.own_val d vs) ∷ Γ) G
  handle_out k d vs go =
      fsplit k $ fpick k (λ vss. fsplit k $ feq_l k (λ ev. fsplit k $ feq_l k (λ et. fsplit k $ feq_l k (λ ep. fsplit k $ handle_tells E.al k d.alloc vss.1.1.0 (λ h ea fits. move k (1 ∷ []) $ drop k $ move k (1 ∷ []) $ go h
      (subst (λ (ws : List Val). vs ≡ vstruct (of_list (vbool d.is_open ∷ (ptr_val d.at ∷ (ws ++ [])))) ∷ []) ea
      (subst (λ (ps : List Val). vs ≡ vstruct (of_list (vbool d.is_open ∷ (ps ++ (vss.1.1.0 ++ [])))) ∷ []) ep
      (subst (λ (ts : List Val). vs ≡ vstruct (of_list (ts ++ (vss.1.0 ++ (vss.1.1.0 ++ [])))) ∷ []) et ev))) fits)))))

  pub handle_in : K → (t : Bool) (p : Ptr) (h : Val) (a : Heap.the_row.Denot) (s : Option Seat.the_row.Denot)
      → Step K 𝓛 (‵ (Handle.the_row.own_val (record { is_open = t; at = p; alloc = a; seat = s }) (word t p h ∷ [])) ∷ Γ) G (‵ (seat_owns t a p s) ∷ ‵ (Heap.the_row.own_val a (h ∷ [])) ∷ Γ) G
  handle_in k t p h a s = step (λ go. let v : Val = word t p h in
      nothing k $ move k (2 ∷ 0 ∷ []) $ fjoin k $ feq_i k (List Val) (ptr_val p ∷ []) (ptr_val p ∷ []) refl $ fjoin k $ feq_i k (List Val) (vbool t ∷ []) (vbool t ∷ []) refl $ fjoin k $
      feq_i k (List Val) (v ∷ []) (v ∷ []) refl $ fjoin k $
      fpack k (Valss (bool ∷ RawPtr ∷ Heap.the_row ∷ [])) (within (shape Handle.the_type) (to Handle.the_type (record { is_open = t; at = p; alloc = a; seat = s })) (v ∷ [])) (vbool t ∷ [], (ptr_val p ∷ [], (h ∷ [], tt))) $ fjoin k $ go)

  -- a handle is closed, or owns the block of a seat
  pub seat_cases : K → (t : Bool) (p : Ptr) (a : Heap.the_row.Denot) (s : Option Seat.the_row.Denot)
      → (t ≡ false → s ≡ None → Seq K 𝓛 Γ G)
      → ((b o : ℕ) (x : Seat.the_row.Denot) → t ≡ true → p ≡ block_ptr b o → s ≡ Some x → Seq K 𝓛 (‵ (box_owns (ghosts.dealloc_token a) Seat.the_row (block_ptr b o) x) ∷ Γ) G)
      → Seq K 𝓛 (‵ (seat_owns t a p s) ∷ Γ) G
  seat_cases k false p a None shut full = drop k $ shut refl refl
  seat_cases k false p a (Some x) shut full = in_a_block k null_ptr (λ _. ffalse) (id⊢ 𝓤 _) (λ b o e. absurd (subst InBlock (sym e) tt))
  seat_cases k true p a None shut full = in_a_block k null_ptr (λ _. ffalse) (id⊢ 𝓤 _) (λ b o e. absurd (subst InBlock (sym e) tt))
  seat_cases k true p a (Some x) shut full = in_a_block k p (λ q. box_owns (ghosts.dealloc_token a) Seat.the_row q x) (fst∗ 𝓤 (never 𝓤) (sem 𝓛 (ghosts.dealloc_token a (bare (lone Seat.the_row.mir)) null_ptr))) (λ b o e. full b o x refl e refl)
