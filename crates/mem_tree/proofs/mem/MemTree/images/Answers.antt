use Rattle.std.proofs.Common.{◌≡◌, ℕ, length, sym, ◌∙◌, ap, subst, arith, map, take}
use Rattle.tree_core.specs.History.{Began}
use Rattle.tree_core.specs.SubLists.{pending_calls}
use Rattle.mem_tree.specs.declared.mem.MemTree.{MemTree}
use Rattle.mem_tree.specs.Stores.{tree_of}
use Rattle.mem_tree.specs.Records.{history_of}
use Rattle.mem_tree.specs.Images.{Stand, EndsAt, stand_in, stand_of}
use Rattle.mem_tree.specs.MemHistory.{told, history_told, stand_told}
use Rattle.mem_tree.proofs.RecordLemmas.{sound_after, were_take}
use Rattle.mem_tree.proofs.ImageLemmas.{made_images, all_left, if_ok, ends_at}
use Rattle.mem_tree.proofs.mem.MemTree.images.Goals as goal

pub images_of-requires-clause-whole : goal.images_of-requires-clause-whole
images_of-requires-clause-whole c =
    let m = c.args.self.now in
    let first = take c.count_before_sync-synced.result m.attempts.items in
    subst (λ n. EndsAt n c.deref-2.result.now (tree_of c.in_ok-base.base)) (sym m.numbered)
    (ends_at (history_told m) (history_of m.began m.first_number first) (tree_of c.in_ok-base.base) c.deref-2.result.now c.count_before_sync-synced.ensures.history
    (sound_after (Began (tree_of m.began) m.first_number) first m.begins (were_take (Began (tree_of m.began) m.first_number) m.attempts.items c.count_before_sync-synced.result m.were)) (ap (λ (s : Stand). s.tree) c.in_ok-base.ensures) (c.deref-2.ensures.value ∙ c.in_ok-whole.ensures))

pub returns-clause-images : goal.returns-clause-images
returns-clause-images c =
    let m = c.args.self.now in
    made_images c.images_of.result (λ v. map stand_told v.items) _ c.deref-2.result.now c.deref-4.result.now c.len.result _ (stand_in c.in_ok-base.base) (c.deref-2.ensures.value ∙ c.in_ok-whole.ensures)
    (c.deref-4.ensures.value ∙ c.in_ok-chosen.ensures) (let count = c.len.ensures in let same : length c.in_ok-whole.whole.items ≡ length (pending_calls (history_told m)) = ap length c.in_ok-whole.ensures in omega arith) (c.in_ok-base.ensures ∙ ap (λ h. stand_of h (told m).times) c.count_before_sync-synced.ensures.history) c.images_of.ensures.images

pub returns-clause-crash : goal.returns-clause-crash
returns-clause-crash c =
    let m = c.args.self.now in
    if_ok c.images_of.result _ _ (λ v are. all_left (history_told m) (told m).times v.items are) (returns-clause-images c)
