-- What is still to be laid out, over plain variables.
use Rattle.std.proofs.Common.{◌≡◌, inl, inr, ℕ, ◌+◌, ◌<◌, ◌≤◌, ◌++◌, List, [], ◌∷◌, Bool, length, refl, sym, ◌∙◌, ap, subst, arith, drop, append_assoc, get_or}
use Rattle.std.proofs.lemmas.List.{append-nil, drop_all}
use Rattle.std.proofs.lemmas.List.Sums.{sum_by-append, sum_by-cons}
use Rattle.isle_trees.specs.Rules.{rights}
use Rattle.isle_trees.specs.Scopes.{Scope}
use Rattle.isle_trees.specs.Builds.{Builds, BuildsArms, Returns, BindsEach}
use Rattle.isle_trees.specs.Counting.{weight}
use Rattle.isle_trees.specs.Search.{AreMarked, IsInOrder}
use Rattle.isle_trees.proofs.Asking.{elem_append}
use Rattle.isle_trees.proofs.Building.InOrder.{returns_more}
use Rattle.isle_trees.proofs.Building.Scopes.{scope_same}
use Rattle.isle_blocks.specs.declared.ids.BindingId.{BindingId}
use Rattle.isle_blocks.specs.declared.constraint.Constraint.{Constraint}
use Rattle.isle_blocks.specs.declared.serializer.known.Known.{Known}
use Rattle.isle_blocks.specs.declared.serializer.node.Node.{Node}
use Rattle.isle_blocks.specs.declared.serializer.node.Node.TheVariants as nodes
use Rattle.isle_blocks.specs.declared.serializer.work.Open.{Open}
use Rattle.isle_blocks.specs.declared.serializer.work.Task.{Task}
use Rattle.isle_blocks.specs.declared.serializer.work.Task.TheVariants as tasks
use Rattle.isle_blocks.specs.RuleSets.{RulesOverSites}
use Rattle.isle_blocks.specs.Trees.Nodes.{Piece, first_arms, first_steps, given, later, put, read}
use Rattle.isle_blocks.specs.Rows.{numbers_of}
use Rattle.isle_blocks.specs.Inside.Trees.Marking.{AreReady}
use Rattle.isle_blocks.specs.Inside.Trees.Builder.{IsFit, rules_in, scope_of}
use Rattle.isle_blocks.specs.Inside.Trees.Work.{all_taken, AreArms, AreDue, AreGiven, AreOfRules, AreReturns, AreRules, AreTasks, IsCopy, IsDue, IsOfRule, Moves}
use Rattle.isle_blocks.specs.Inside.Trees.Work.{sizes, task_size, WantsArms, WantsBlock}
use Rattle.isle_blocks.proofs.Trees.Laying.{read-append}

-- ---- tasks as a list

pub taken_append : (ts us : List Task) (pieces : List Piece) → all_taken (ts ++ us) pieces ≡ all_taken ts (all_taken us pieces)
taken_append [] us pieces = refl
taken_append (t ∷ ts) us pieces = ap later (taken_append ts us pieces)

pub due_left : (set : RulesOverSites) (ts us : List Task) (pieces : List Piece) → AreDue set (ts ++ us) pieces → AreDue set us pieces
due_left set [] us pieces d = d
due_left set (t ∷ ts) us pieces d = due_left set ts us pieces d.0

pub due_right : (set : RulesOverSites) (ts us : List Task) (pieces : List Piece) → AreDue set (ts ++ us) pieces → AreDue set ts (all_taken us pieces)
due_right set [] us pieces d = tt
due_right set (t ∷ ts) us pieces d =
    let P : List Piece → Type 0 = λ x. IsDue set t x in (due_right set ts us pieces d.0, subst P (taken_append ts us pieces) d.1)

pub due_both : (set : RulesOverSites) (ts us : List Task) (pieces : List Piece) → AreDue set us pieces → AreDue set ts (all_taken us pieces)
    → AreDue set (ts ++ us) pieces
due_both set [] us pieces d e = d
due_both set (t ∷ ts) us pieces d e =
    let P : List Piece → Type 0 = λ x. IsDue set t x in (due_both set ts us pieces d e.0, subst P (sym (taken_append ts us pieces)) e.1)

pub tasks_left : (set : RulesOverSites) (ts us : List Task) → AreTasks set (ts ++ us) → AreTasks set ts
tasks_left set [] us v = tt
tasks_left set (t ∷ ts) us v = (v.0, tasks_left set ts us v.1)

pub tasks_right : (set : RulesOverSites) (ts us : List Task) → AreTasks set (ts ++ us) → AreTasks set us
tasks_right set [] us v = v
tasks_right set (t ∷ ts) us v = tasks_right set ts us v.1

pub tasks_both : (set : RulesOverSites) (ts us : List Task) → AreTasks set ts → AreTasks set us → AreTasks set (ts ++ us)
tasks_both set [] us v w = w
tasks_both set (t ∷ ts) us v w = (v.0, tasks_both set ts us v.1 w)

pub sizes_append : (set : RulesOverSites) (ts us : List Task) → sizes set (ts ++ us) ≡ sizes set ts + sizes set us
sizes_append set ts us = sum_by-append (task_size set) ts us

pub sizes_one : (set : RulesOverSites) (t : Task) → sizes set (t ∷ []) ≡ task_size set t
sizes_one set t = omega (arith, sum_by-cons (task_size set) t [])

pub sizes_two : (set : RulesOverSites) (t u : Task) → sizes set (t ∷ u ∷ []) ≡ task_size set t + task_size set u
sizes_two set t u = omega (arith, sum_by-cons (task_size set) t (u ∷ []), sum_by-cons (task_size set) u [])

-- returns of two lists of nodes are of rules
pub told_both : (set : RulesOverSites) (xs ys : List Node) → AreOfRules set xs → AreOfRules set ys → AreOfRules set (xs ++ ys)
told_both set xs ys a b n m = elim (elem_append n xs ys m) [ inl h ↦ a n h | inr h ↦ b n h ]

pub told_one : (set : RulesOverSites) (x : Node) → IsOfRule set x → AreOfRules set (x ∷ [])
told_one set x h n m = elim m [ inl e ↦ subst (IsOfRule set) (sym e) h | inr z ↦ absurd z ]

-- ---- one turn of the loop

pub turned_valid : (set : RulesOverSites) (task : Task) (before front new : List Task) (old nodes : List Node) → before ≡ front ++ task ∷ []
    → AreTasks set before → Moves set task front new old nodes → AreTasks set new
turned_valid set task before front new old nodes e v m =
    let P : List Task → Type 0 = λ l. AreTasks set l in
    subst P (sym m.work) (tasks_both set front m.tasks (tasks_left set front (task ∷ []) (subst P e v)) m.valid)

pub turned_smaller : (set : RulesOverSites) (task : Task) (before front new : List Task) (old nodes : List Node) → before ≡ front ++ task ∷ []
    → Moves set task front new old nodes → sizes set new + 1 ≤ sizes set before
turned_smaller set task before front new old nodes e m =
    let p : sizes set new ≡ sizes set front + sizes set m.tasks = ap (sizes set) m.work ∙ sizes_append set front m.tasks in
    let q : sizes set before ≡ sizes set front + sizes set (task ∷ []) = ap (sizes set) e ∙ sizes_append set front (task ∷ []) in
    let r = sizes_one set task in
    let s = m.smaller in
    omega arith

pub turned_told : (set : RulesOverSites) (task : Task) (front new : List Task) (old nodes : List Node)
    → Moves set task front new old nodes → AreOfRules set old → AreOfRules set nodes
turned_told set task front new old nodes m t = subst (AreOfRules set) (sym m.nodes) (told_both set old m.added t m.told)

pub turned : (set : RulesOverSites) (left : List ℕ) (sc : Scope Constraint) (task : Task) (before front new : List Task) (old nodes : List Node)
    → before ≡ front ++ task ∷ [] → Moves set task front new old nodes
    → ((pieces : List Piece) → AreDue set before pieces → Builds (rules_in set) left sc (first_steps (read old pieces)))
    → (pieces : List Piece) → AreDue set new pieces → Builds (rules_in set) left sc (first_steps (read nodes pieces))
turned set left sc task before front new old nodes e m h pieces d =
    let D : List Task → Type 0 = λ l. AreDue set l pieces in
    let d2 : AreDue set (front ++ m.tasks) pieces = subst D m.work d in
    let here : IsDue set task (read m.added pieces) = m.due pieces (due_left set front m.tasks pieces d2) in
    let S : List Piece → Type 0 = λ x. AreDue set front x in
    let there : AreDue set front (later (read m.added pieces)) = subst S (sym (m.rest pieces)) (due_right set front m.tasks pieces d2) in
    let E : List Task → Type 0 = λ l. AreDue set l (read m.added pieces) in
    let all : AreDue set before (read m.added pieces) = subst E (sym e) (due_both set front (task ∷ []) (read m.added pieces) (tt, here) there) in
    let B : List Piece → Type 0 = λ x. Builds (rules_in set) left sc (first_steps x) in
    subst B (sym (ap (λ (l : List Node). read l pieces) m.nodes ∙ read-append old m.added pieces)) (h (read m.added pieces) all)

-- at the start one block is to be laid out
pub begun : (set : RulesOverSites) (left : List ℕ) (sc : Scope Constraint) (old work : List Task) → old ≡ [] → WantsBlock set left sc old work
    → (pieces : List Piece) → AreDue set work pieces → Builds (rules_in set) left sc (first_steps pieces)
begun set left sc old work e w pieces d =
    let D : List Task → Type 0 = λ l. AreDue set l pieces in
    let f : work ≡ w.task ∷ [] = w.work ∙ ap (λ (l : List Task). l ++ w.task ∷ []) e in
    w.due pieces (subst D f d).1

pub begun_valid : (set : RulesOverSites) (left : List ℕ) (sc : Scope Constraint) (old work : List Task) → old ≡ [] → WantsBlock set left sc old work
    → AreTasks set work
begun_valid set left sc old work e w =
    let P : List Task → Type 0 = λ l. AreTasks set l in
    let f : work ≡ w.task ∷ [] = w.work ∙ ap (λ (l : List Task). l ++ w.task ∷ []) e in
    subst P (sym f) (w.valid, tt)

-- ---- what is copied

pub copied_scope : (set : RulesOverSites) (a b : Known) → IsCopy a b → scope_of set a ≡ scope_of set b
copied_scope set a b c = scope_same (scope_of set a) (scope_of set b) (λ s. rw c.passed refl) (λ s. rw c.labels refl) (λ s. rw c.emitted refl)

pub copied_fit : (set : RulesOverSites) (n : ℕ) (a b : Known) → IsCopy a b → IsFit set n b → IsFit set n a
copied_fit set n a b c f = record {
  passed = rw c.passed f.passed;
  labels = rw c.labels f.labels;
  emitted = rw c.emitted f.emitted;
  below = rw c.labels f.below;
  wanted = rw c.passed f.wanted;
}

-- ---- returns

pub given_more : (set : RulesOverSites) (left : List ℕ) (i : ℕ) (sc now after : Scope Constraint) (binds : List ℕ)
    (node : Node) (old mid new : List Node)
    → IsInOrder (rules_in set) left → i < length left → BindsEach (rules_in set) now (rights (rules_in set) (get_or left i 0)) binds after
    → ((pieces : List Piece) → put node pieces ≡ given binds (get_or left i 0) pieces) → IsOfRule set node → new ≡ mid ++ node ∷ []
    → AreGiven set left (drop i left) sc now old mid → AreGiven set left (drop (i + 1) left) sc after old new
given_more set left i sc now after binds node old mid new o l b p t e g =
    let R = rules_in set in
    record {
      added = g.added ++ node ∷ [];
      nodes = e ∙ ap (λ (x : List Node). x ++ node ∷ []) g.nodes ∙ append_assoc old g.added (node ∷ []);
      told = told_both set g.added (node ∷ []) g.told (told_one set node t);
      returns = λ pieces r.
          let P : List Piece → Type 0 = λ x. Returns R left sc (first_steps x) in
          let Q : List Piece → Type 0 = λ x. Returns R (drop i left) now (first_steps x) in
          subst P (sym (read-append g.added (node ∷ []) pieces))
          (g.returns (put node pieces) (subst Q (sym (p pieces)) (returns_more R left i now after binds (first_steps pieces) o l b r)));
      rest_is = λ pieces. ap later (read-append g.added (node ∷ []) pieces) ∙ g.rest_is (put node pieces) ∙ ap later (p pieces);
    }

pub given_all : (set : RulesOverSites) (left : List ℕ) (i : ℕ) (sc now : Scope Constraint) (old mid new : List Node) → length left ≤ i
    → new ≡ mid ++ nodes.End ∷ [] → AreGiven set left (drop i left) sc now old mid → AreReturns set left sc old new
given_all set left i sc now old mid new l e g =
    let R = rules_in set in
    record {
      added = g.added ++ nodes.End ∷ [];
      nodes = e ∙ ap (λ (x : List Node). x ++ nodes.End ∷ []) g.nodes ∙ append_assoc old g.added (nodes.End ∷ []);
      told = told_both set g.added (nodes.End ∷ []) g.told (told_one set nodes.End tt);
      returns = λ pieces.
          let P : List Piece → Type 0 = λ x. Returns R left sc (first_steps x) in
          let Q : List ℕ → Type 0 = λ x. Returns R x now (first_steps (put nodes.End pieces)) in
          subst P (sym (read-append g.added (nodes.End ∷ []) pieces)) (g.returns (put nodes.End pieces) (subst Q (sym (drop_all i left l)) refl));
      rest = λ pieces. ap later (read-append g.added (nodes.End ∷ []) pieces) ∙ g.rest_is (put nodes.End pieces);
    }

-- ---- what is to be laid out, with copies of what is known

pub wants_copied : (set : RulesOverSites) (o : Open) (task : Task) (known : Known) (marks : List Bool) (ready : List BindingId) (w0 w1 : List Task)
    → task ≡ tasks.Block o → IsCopy o.known known → o.marks ≡ marks → o.ready.items ≡ ready → IsFit set (length set.sites) known
    → IsInOrder (rules_in set) o.left.items → AreRules set o.left.items
    → length marks ≡ length set.sites → AreMarked (rules_in set) o.left.items (scope_of set known) marks
    → AreReady (rules_in set) o.left.items (scope_of set known) marks (numbers_of ready) → 0 < length o.left.items
    → w1 ≡ w0 ++ task ∷ [] → WantsBlock set o.left.items (scope_of set known) w0 w1
wants_copied set o task known marks ready w0 w1 is copy same listed fit order rules size marked open_ready some e =
    let R = rules_in set in
    let at : scope_of set o.known ≡ scope_of set known = copied_scope set o.known known copy in
    let M : List Bool → Type 0 = λ m. AreMarked R o.left.items (scope_of set known) m in
    let S : Scope Constraint → Type 0 = λ x. AreMarked R o.left.items x o.marks in
    let N : List Bool → Type 0 = λ m. AreReady R o.left.items (scope_of set known) m (numbers_of o.ready.items) in
    let T : Scope Constraint → Type 0 = λ x. AreReady R o.left.items x o.marks (numbers_of o.ready.items) in
    let L : List BindingId → Type 0 = λ l. AreReady R o.left.items (scope_of set known) marks (numbers_of l) in
    let w : weight R (scope_of set o.known) o.left.items ≡ weight R (scope_of set known) o.left.items =
    ap (λ (x : Scope Constraint). weight R x o.left.items) at in
    record {
      task = tasks.Block o;
      work = e ∙ ap (λ (t : Task). w0 ++ t ∷ []) is;
      valid = record {
        fit = copied_fit set (length set.sites) o.known known copy fit;
        order = order;
        rules = rules;
        size = ap length same ∙ size;
        marked = subst S (sym at) (subst M (sym same) marked);
        ready = subst T (sym at) (subst N (sym same) (subst L (sym listed) open_ready));
        some = some;
      };
      due = λ pieces d. let B : Scope Constraint → Type 0 = λ x. Builds R o.left.items x (first_steps pieces) in subst B at d;
      size = omega arith;
    }

pub wants_more : (set : RulesOverSites) (s start : ℕ) (at : BindingId) (o : Open) (task : Task) (known : Known) (marks : List Bool)
    (ready : List BindingId) (w0 w1 : List Task)
    → s ≡ at.0 → task ≡ tasks.Arms at start o
    → IsCopy o.known known → o.marks ≡ marks → o.ready.items ≡ ready → AreArms set s o.left.items known marks (numbers_of ready)
    → start < length o.left.items → w1 ≡ w0 ++ task ∷ []
    → WantsArms set (drop start o.left.items) (scope_of set known) s w0 w1
wants_more set s start site o task known marks ready w0 w1 number is copy same listed arms more e =
    let R = rules_in set in
    let at : scope_of set o.known ≡ scope_of set known = copied_scope set o.known known copy in
    let M : List Bool → Type 0 = λ m. AreMarked R o.left.items (scope_of set known) m in
    let S : Scope Constraint → Type 0 = λ x. AreMarked R o.left.items x o.marks in
    let N : List Bool → Type 0 = λ m. AreReady R o.left.items (scope_of set known) m (numbers_of o.ready.items) in
    let T : Scope Constraint → Type 0 = λ x. AreReady R o.left.items x o.marks (numbers_of o.ready.items) in
    let L : List BindingId → Type 0 = λ l. AreReady R o.left.items (scope_of set known) marks (numbers_of l) in
    let w : weight R (scope_of set o.known) (drop start o.left.items) ≡ weight R (scope_of set known) (drop start o.left.items) =
    ap (λ (x : Scope Constraint). weight R x (drop start o.left.items)) at in
    let fan : AreArms set s o.left.items o.known o.marks (numbers_of o.ready.items) = record {
      fit = copied_fit set (length set.sites) o.known known copy arms.fit;
      size = ap length same ∙ arms.size;
      marked = subst S (sym at) (subst M (sym same) arms.marked);
      ready = subst T (sym at) (subst N (sym same) (subst L (sym listed) arms.ready));
      site = arms.site;
      untested = ap (λ (x : Scope Constraint). x.passed s) at ∙ arms.untested;
      grouped = arms.grouped;
      rules = arms.rules;
      want = arms.want;
    } in
    record {
      task = tasks.Arms site start o;
      work = e ∙ ap (λ (t : Task). w0 ++ t ∷ []) is;
      valid = record { arms = subst (λ (x : ℕ). AreArms set x o.left.items o.known o.marks (numbers_of o.ready.items)) number fan; more = more };
      due = λ pieces d.
          let B : Scope Constraint → Type 0 = λ x. BuildsArms R (drop start o.left.items) x s (first_arms pieces) in
          subst B at (subst (λ (x : ℕ). BuildsArms R (drop start o.left.items) (scope_of set o.known) x (first_arms pieces)) (sym number) d);
      size = omega arith;
    }
