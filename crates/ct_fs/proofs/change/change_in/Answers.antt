use Rattle.std.proofs.Common.{◌≡◌, ℕ, List, refl}
use Rattle.std.specs.Borrow.{Bor}
use Rattle.ct_tree.specs.Step.{op_of}
use Rattle.ct_tree.specs.declared.call.Call.{Call}
use Rattle.ct_tree.specs.declared.call.Call.TheVariants.{Create, Mkdir, Write, Fill, Append, Read, Truncate, Unlink, Rmdir, Rename, Exchange, Stat, List as ListNames, Where}
use Rattle.ct_call.specs.Calls.{IsChange}
use Rattle.ct_fs.proofs.change.change_in.Goals as goal

-- no other call is there
other : (m : Call) → IsChange (op_of m) → ((p : Bor (List ℕ)) → m ≡ Create p → ⊥) → ((p : Bor (List ℕ)) → m ≡ Mkdir p → ⊥) → ((p : Bor (List ℕ)) (off : ℕ) (b : Bor (List ℕ)) → m ≡ Write p off b → ⊥)
    → ((p : Bor (List ℕ)) (off len byte : ℕ) → m ≡ Fill p off len byte → ⊥) → ((p b : Bor (List ℕ)) → m ≡ Append p b → ⊥) → ((p : Bor (List ℕ)) (len : ℕ) → m ≡ Truncate p len → ⊥)
    → ((p : Bor (List ℕ)) (off : ℕ) (q : Bor (List ℕ)) (other_off len : ℕ) → m ≡ Exchange p off q other_off len → ⊥)
    → ((p : Bor (List ℕ)) → m ≡ Unlink p → ⊥) → ((p : Bor (List ℕ)) → m ≡ Rmdir p → ⊥) → ((p q : Bor (List ℕ)) → m ≡ Rename p q → ⊥) → ⊥
other (Create p) is c d w f a t x u r n = c p refl
other (Mkdir p) is c d w f a t x u r n = d p refl
other (Write p off bytes) is c d w f a t x u r n = w p off bytes refl
other (Fill p off len byte) is c d w f a t x u r n = f p off len byte refl
other (Append p bytes) is c d w f a t x u r n = a p bytes refl
other (Read p off len) is c d w f a t x u r n = is
other (Truncate p len) is c d w f a t x u r n = t p len refl
other (Unlink p) is c d w f a t x u r n = u p refl
other (Rmdir p) is c d w f a t x u r n = r p refl
other (Rename p q) is c d w f a t x u r n = n p q refl
other (Exchange p off q other_off len) is c d w f a t x u r n = x p off q other_off len refl
other (Stat p) is c d w f a t x u r n = is
other (ListNames p) is c d w f a t x u r n = is
other (Where p) is c d w f a t x u r n = is

pub unreachable-requires : goal.unreachable-requires
unreachable-requires g c = other c.args.call.now c.requires.change c.in_default.not-Create c.in_default.not-Mkdir c.in_default.not-Write c.in_default.not-Fill c.in_default.not-Append c.in_default.not-Truncate c.in_default.not-Exchange c.in_default.not-Unlink c.in_default.not-Rmdir c.in_default.not-Rename
