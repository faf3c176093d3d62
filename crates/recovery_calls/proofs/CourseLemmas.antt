-- Code that follows a course, one part behind another.
use Rattle.std.proofs.Common.{◌≡◌, inl, ℕ, true, false, is_some, List, [], ◌++◌, refl, sym, ◌∙◌, ap, subst, Option, Some, None, Result, Ok, Err}
use Rattle.std.proofs.lemmas.List.{append-nil}
use Rattle.recovery_calls.proofs.RestLemmas.{Ended, Rest, ended_first, ended_left, ended_look, rest_all, ran_left, rest_next, rest_none, rest_seen}
use Rattle.recovery_courses.specs.Course.{Course, Follows, and_then, going_on, strange_at, these}
use Rattle.tree_core.specs.declared.node.CallName.{CallName}
use Rattle.tree_core.specs.declared.node.Change.{Change}
use Rattle.tree_core.specs.FileTree.{FileTree}
use Rattle.tree_core.specs.History.{History, current_tree}
use Rattle.tree_core.specs.Runs.{FailedIn, then_all}

-- Of a course, some calls were done and nothing strange was found, and this is left. `first` is the tree before the last failed call
-- when it began.
pub record OnCourse (whole : Course) (began now : History) (left : Course) : Type 0 where
  pub rest : Rest whole.calls began now left.calls
  pub strange : whole.strange ≡ left.strange

pub course_all : (whole : Course) (began : History) → OnCourse whole began began whole
course_all whole began = record { rest = rest_all whole.calls began began refl; strange = refl }

pub course_as : (whole : Course) (began now : History) (left other : Course) → OnCourse whole began now left → left ≡ other → OnCourse whole began now other
course_as whole began now left other on same = subst (OnCourse whole began now) same on

pub course_seen : (whole : Course) (began now new : History) (left : Course) → OnCourse whole began now left → new ≡ now → OnCourse whole began new left
course_seen whole began now new left on same = record { rest = rest_seen whole.calls began now new left.calls on.rest same; strange = on.strange }

going_calls : (cs : List Change) (o : Option ℕ) (next : Course) → o ≡ None → (going_on cs o next).calls ≡ cs ++ next.calls
going_calls cs None next is = refl
going_calls cs (Some k) next is = cc

going_strange : (cs : List Change) (o : Option ℕ) (next : Course) → o ≡ None → (going_on cs o next).strange ≡ next.strange
going_strange cs None next is = refl
going_strange cs (Some k) next is = cc

-- the first part was done
pub course_next : (whole : Course) (began now new : History) (cs : List Change) (o : Option ℕ) (next : Course) → OnCourse whole began now (going_on cs o next)
    → o ≡ None → new ≡ then_all now cs → OnCourse whole began new next
course_next whole began now new cs o next on none is = record {
  rest = rest_next whole.calls began now new cs next.calls (subst (λ (l : List Change). Rest whole.calls began now l) (going_calls cs o next none) on.rest) is;
  strange = on.strange ∙ going_strange cs o next none;
}

-- ---- how it ends

stopped_calls : (cs : List Change) (o : Option ℕ) (next : Course) (k : ℕ) → o ≡ Some k → (going_on cs o next).calls ≡ cs
stopped_calls cs None next k is = cc
stopped_calls cs (Some j) next k is = refl

stopped_strange : (cs : List Change) (o : Option ℕ) (next : Course) (k : ℕ) → o ≡ Some k → (going_on cs o next).strange ≡ Some k
stopped_strange cs None next k is = cc
stopped_strange cs (Some j) next k is = is

-- a call or a look failed in the first part
pub course_ended : (whole : Course) (began now : History) (cs : List Change) (o : Option ℕ) (next : Course) → OnCourse whole began now (going_on cs o next)
    → (new : History) (before : FileTree) (first : CallName) → Ended cs now new before first → Ended whole.calls began new before first
course_ended whole began now cs None next on new before first failed = ended_first whole.calls began now cs next.calls on.rest new before first failed
course_ended whole began now cs (Some k) next on new before first failed =
    ended_first whole.calls began now cs [] (subst (λ (l : List Change). Rest whole.calls began now l) (sym (append-nil cs)) on.rest) new before first failed

-- it is answered
pub follows_ended : (whole : Course) (began new : History) (before behind : FileTree) (result : Result (Option ℕ) CallName) (first : CallName)
    → result ≡ Err first → Ended whole.calls began new behind first → Follows whole began new before behind result
follows_ended whole began new before behind result first is failed =
    subst (λ (r : Result (Option ℕ) CallName). Follows whole began new before behind r) (sym is) record { ran = failed; strange = tt }

-- all of it was done
pub follows_done : (whole : Course) (began new : History) (before behind : FileTree) → OnCourse whole began new (these []) → behind ≡ before → Follows whole began new before behind (Ok None)
follows_done whole began new before behind on same = record { ran = (rest_none whole.calls began new on.rest, same); strange = sym on.strange }

-- something strange was found behind these calls
pub follows_strange : (whole : Course) (began now new : History) (cs : List Change) (o : Option ℕ) (next : Course) → OnCourse whole began now (going_on cs o next)
    → (k : ℕ) → o ≡ Some k → new ≡ then_all now cs → (before behind : FileTree) → behind ≡ before → Follows whole began new before behind (Ok (Some k))
follows_strange whole began now new cs o next on k is done before behind same =
    let r = subst (λ (l : List Change). Rest whole.calls began now l) (stopped_calls cs o next k is ∙ sym (append-nil cs)) on.rest in
    record {
      ran = (rest_none whole.calls began new (rest_next whole.calls began now new cs [] r done), same);
      strange = sym (on.strange ∙ stopped_strange cs o next k is);
    }

-- ---- a part that was followed

pub some_none : (s : Option ℕ) → is_some s ≡ true → s ≡ None → ⊥
some_none None some is = cc
some_none (Some k) some is = cc

pub none_of_it : (s : Option ℕ) → is_some s ≡ false → s ≡ None
none_of_it None is = refl
none_of_it (Some k) is = cc

module _ (whole : Course) (began now new : History) (first middle behind : FileTree) (course : Course) (next : History → Course)
    (on : OnCourse whole began now (and_then course now next)) (same : middle ≡ first) where
  -- to its end
  pub followed : (s : Option ℕ) → s ≡ None → Follows course now new middle behind (Ok s) → OnCourse whole began new (next new)
  followed s none f =
      let left = next (then_all now course.calls) in
      course_as whole began new left (next new)
      (course_next whole began now new course.calls course.strange left on (sym f.strange ∙ none) f.ran.0)
      (ap next (sym f.ran.0))

  -- or to something strange
  pub follows_some : (s : Option ℕ) → is_some s ≡ true → Follows course now new middle behind (Ok s) → Follows whole began new first behind (Ok s)
  follows_some None some f = cc
  follows_some (Some k) some f =
      follows_strange whole began now new course.calls course.strange (next (then_all now course.calls)) on k (sym f.strange) f.ran.0 first behind (f.ran.1 ∙ same)

  -- or to a call or look that failed
  pub follows_err : (result : Result (Option ℕ) CallName) (e : CallName) → result ≡ Err e → Follows course now new middle behind (Err e) → Follows whole began new first behind result
  follows_err result e is f =
      follows_ended whole began new first behind result e is (course_ended whole began now course.calls course.strange (next (then_all now course.calls)) on new behind e f.ran)

-- the last part
pub follows_last : (whole : Course) (began now new : History) (first middle behind : FileTree) (left : Course) → OnCourse whole began now left → middle ≡ first
    → (result : Result (Option ℕ) CallName) → Follows left now new middle behind result → Follows whole began new first behind result
follows_last whole began now new first middle behind left on same (Ok o) f =
    record { ran = ran_left whole.calls began now left.calls on.rest {T = Option ℕ} new first middle behind (Ok o) same f.ran; strange = f.strange ∙ sym on.strange }
follows_last whole began now new first middle behind left on same (Err e) f =
    record { ran = ran_left whole.calls began now left.calls on.rest {T = Option ℕ} new first middle behind (Err e) same f.ran; strange = tt }

-- ---- calls, and where nothing strange was found these others

module _ (cs ds : List Change) (o : Option ℕ) (began : History) (first : FileTree) where
  abbrev two : Course
  two = going_on cs o (these ds)

  -- a call or a look failed among the first ones
  pub two_ended : (new : History) (behind : FileTree) (result : Result (Option ℕ) CallName) (call : CallName) → result ≡ Err call → Ended cs began new behind call
      → Follows (going_on cs o (these ds)) began new first behind result
  two_ended new behind result call is failed = follows_ended two began new first behind result call is (course_ended two began began cs o (these ds) (course_all two began) new behind call failed)

  -- something strange was found
  pub two_strange : (new : History) (behind : FileTree) (s : Option ℕ) → is_some s ≡ true → s ≡ o → new ≡ then_all began cs → behind ≡ first → Follows (going_on cs o (these ds)) began new first behind (Ok s)
  two_strange new behind None some is done same = cc
  two_strange new behind (Some k) some is done same = follows_strange two began began new cs o (these ds) (course_all two began) k (sym is) done first behind same

  module _ (mid : History) (none : o ≡ None) (done : mid ≡ then_all began cs) where
    two_on : OnCourse two began mid (these ds)
    two_on = course_next two began began mid cs o (these ds) (course_all two began) none done

    -- a call failed among the others
    pub two_failed : (new : History) (behind : FileTree) (result : Result (Option ℕ) CallName) (call : CallName) → result ≡ Err call → FailedIn ds mid new behind call
        → Follows (going_on cs o (these ds)) began new first behind result
    two_failed new behind result call is failed = follows_ended two began new first behind result call is (ended_left two.calls began mid ds two_on.rest new behind call (inl failed))

    -- all of it was done
    pub two_done : (new : History) (behind : FileTree) → new ≡ then_all mid ds → behind ≡ first → Follows (going_on cs o (these ds)) began new first behind (Ok None)
    two_done new behind all same = follows_done two began new first behind record {
      rest = rest_next two.calls began mid new ds [] (subst (λ (l : List Change). Rest two.calls began mid l) (sym (append-nil ds)) two_on.rest) all;
      strange = two_on.strange;
    } same

-- ---- looks and calls without anything strange

-- a look failed at the begin
pub follows_look : (whole : Course) (began new : History) (first behind : FileTree) (result : Result (Option ℕ) CallName) (call : CallName) → result ≡ Err call → new ≡ began → behind ≡ current_tree began
    → Follows whole began new first behind result
follows_look whole began new first behind result call is same tree =
    follows_ended whole began new first behind result call is (ended_look whole.calls began began whole.calls (rest_all whole.calls began began refl) new behind call same tree)

pub follows_told : (whole : Course) (began new : History) (first behind : FileTree) (k : ℕ) → whole ≡ strange_at k → new ≡ began → behind ≡ first → Follows whole began new first behind (Ok (Some k))
follows_told whole began new first behind k is same tree =
    subst (λ (c : Course). Follows c began new first behind (Ok (Some k))) (sym is) record { ran = (same, tree); strange = refl }

module _ (whole : Course) (cs : List Change) (is : whole ≡ these cs) (began new : History) (first behind : FileTree) where
  pub these_ended : (result : Result (Option ℕ) CallName) (call : CallName) → result ≡ Err call → Ended cs began new behind call → Follows whole began new first behind result
  these_ended result call err failed =
      subst (λ (c : Course). Follows c began new first behind result) (sym is) (follows_ended (these cs) began new first behind result call err failed)

  pub these_done : new ≡ then_all began cs → behind ≡ first → Follows whole began new first behind (Ok None)
  these_done done same = subst (λ (c : Course). Follows c began new first behind (Ok None)) (sym is) record { ran = (done, same); strange = refl }

-- the same course, written otherwise
pub follows_as : (other whole : Course) (began new : History) (first behind : FileTree) (result : Result (Option ℕ) CallName) → other ≡ whole → Follows other began new first behind result → Follows whole began new first behind result
follows_as other whole began new first behind result same f = subst (λ (c : Course). Follows c began new first behind result) same f
