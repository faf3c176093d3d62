use Rattle.std.proofs.Common.{◌≡◌, [], rules, sym, true}
use Rattle.tree_core.specs.History.{current_tree}
use Rattle.edit_words.specs.Sight.{is_dir, sight_of}
use Rattle.edit_words.proofs.FindingsLemmas.{closed_more, told_more, tree_is_seen}
use Rattle.edit_looks.proofs.see.see_here.Goals as goal

pub returns-in_err-note-clause-closed : goal.returns-in_err-note-clause-closed
returns-in_err-note-clause-closed g c =
    let root : c.args.path.now ≡ [] → is_dir c.in_ok-found.found ≡ true = λ nil. search (rules, nil) in
    closed_more c.args.path.now c.in_ok-found.found c.requires.closed c.note.ensures.grown c.note.ensures.one c.requires.above root c.in_ok-found.ensures.lawful

pub returns-clause-closed : goal.returns-clause-closed
returns-clause-closed g c =
    let root : c.args.path.now ≡ [] → is_dir c.in_ok-found.found ≡ true = λ nil. search (rules, nil) in
    closed_more c.args.path.now c.in_ok-found.found c.requires.closed c.note.ensures.grown c.note.ensures.one c.requires.above root c.in_ok-found.ensures.lawful

pub returns-in_err-note-clause-told : goal.returns-in_err-note-clause-told
returns-in_err-note-clause-told g c tells =
    let t = current_tree (g.T.Tree.history c.args.tree.now) in
    told_more {s = sight_of t} c.args.path.now c.in_ok-found.found (tree_is_seen t (g.met.T.Tree.is_sound c.args.tree.now tells).tree) (c.requires.told tells) c.note.ensures.one (sym (c.in_ok-found.ensures.found tells))

pub returns-clause-told : goal.returns-clause-told
returns-clause-told g c tells =
    let t = current_tree (g.T.Tree.history c.args.tree.now) in
    told_more {s = sight_of t} c.args.path.now c.in_ok-found.found (tree_is_seen t (g.met.T.Tree.is_sound c.args.tree.now tells).tree) (c.requires.told tells) c.note.ensures.one (sym (c.in_ok-found.ensures.found tells))
