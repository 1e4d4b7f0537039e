-- The `==` of nodes holds exactly where the two are the same.
use Rattle.std.proofs.Common.{◌≡◌, ◌&&◌, Bool, true, false, List, refl, sym, ap}
use Rattle.std.specs.Bool.{Decides}
use Rattle.std.specs.Cmp.{signed_Decides, booleans_Decides}
use Rattle.std.specs.Cmp.Lexicographic.{pointwise, pointwise_decides}
use Rattle.std.proofs.lemmas.Bool.Decides.{Decides-eqb}
use Rattle.std.proofs.lemmas.Slice.Eq.{bytes_eq-Decides}
use Rattle.isle_values.specs.declared.values.Node.{Node}
use Rattle.isle_values.specs.declared.values.Node.TheVariants.{Bool as BoolNode, Int, Big, Const, Opaque, Data}
use Rattle.isle_values.specs.contracts.values.NodePartialEq.TheImpl as node_of

-- two answers that decide two facts decide both
pub both : {P Q : Type 0} (s t : Bool) → Decides s P → Decides t Q → Decides (s && t) (P × Q)
both true true p q = (λ e. (p.0 refl, q.0 refl), λ h. refl)
both true false p q = (λ e. cc, λ h. q.1 h.1)
both false t p q = (λ e. cc, λ h. p.1 h.0)

-- an answer decides whatever its fact comes to
pub through : {P Q : Type 0} {s : Bool} → Decides s P → (P → Q) → (Q → P) → Decides s Q
through d f g = (λ e. f (d.0 e), λ q. d.1 (g q))

-- two answers that decide one fact are the same
pub one_answer : {P : Type 0} (s t : Bool) → Decides s P → Decides t P → s ≡ t
one_answer true true p q = refl
one_answer true false p q = sym (q.1 (p.0 refl))
one_answer false true p q = p.1 (q.0 refl)
one_answer false false p q = refl

node-decides : (a b : Node) → Decides ((node_of.ghosts).eq a b) (a ≡ b)
node-decides (BoolNode a) (BoolNode b) = through (booleans_Decides a b) (λ h. ap BoolNode h) (λ e. cc)
node-decides (Int a) (Int b) = through (signed_Decides a b) (λ h. ap Int h) (λ e. cc)
node-decides (Big a) (Big b) = through (Decides-eqb a b) (λ h. ap Big h) (λ e. cc)
node-decides (Const a) (Const b) = through (bytes_eq-Decides a b) (λ h. ap Const h) (λ e. cc)
node-decides (Opaque a) (Opaque b) = through (Decides-eqb a b) (λ h. ap Opaque h) (λ e. cc)
node-decides (Data a m s) (Data b n t) =
    through (both _ _ (bytes_eq-Decides a b) (both _ _ (Decides-eqb m n) (Decides-eqb s t))) (λ h i. Data (h.0 i) (h.1.0 i) (h.1.1 i))
    (λ e. (cc, (cc, cc)))
node-decides a b = (λ e. cc, λ e. cc)

pub nodes-decide : (a b : List Node) → Decides (pointwise (node_of.ghosts).eq a b) (a ≡ b)
nodes-decide a b = pointwise_decides node-decides a b
