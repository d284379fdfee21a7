use Rattle.igvm_defs.proofs.AnswerLaws.{thrown}
use Rattle.owner.proofs.{CallLaws.{index_kept, query_stops, all, index_37, index_passes, index_put}}
use Rattle.owner.proofs.index_in.Goals as goal

pub returns-in_err-keep_for : goal.returns-in_err-keep_for
returns-in_err-keep_for g c =
    let a = c.args in
    let h = query_stops a.s.now a.given a.words.now _ c.in_err-keep_for.ensures in
    record { value = thrown c.from_residual.result _ _ _ c.from_residual.ensures.1 h; words_after = index_kept a.s.now a.given a.words.now _ h }

pub returns-in_err-refuse_if : goal.returns-in_err-refuse_if
returns-in_err-refuse_if g c =
    let a = c.args in
    let (passed, stands) = c.in_ok-keep_for.ensures in
    let (t, e) = c.in_err-refuse_if.ensures in
    let h = index_37 a.s.now a.given a.words.now c.keep_for.new.kept stands.kept_for passed _ c.count_of-count.ensures.0 _ t e in
    record { value = thrown c.from_residual-in_err-refuse_if.result _ _ _ c.from_residual-in_err-refuse_if.ensures.1 h; words_after = index_kept a.s.now a.given a.words.now _ h }

pub returns : goal.returns
returns g c =
    let a = c.args in
    let (passed, stands) = c.in_ok-keep_for.ensures in
    let f = c.in_ok-refuse_if.ensures in
    let k = c.count_of-count.ensures.0 in
    record {
      value = (index_passes a.s.now a.given a.words.now c.keep_for.new.kept stands.kept_for passed _ k f, all a.s.now a.given a.words.now c.keep_for.new.kept stands.kept_for passed _ k);
      words_after = index_put a.s.now a.given a.words.now c.keep_for.new.kept stands.kept_for passed _ k f _ (c.put_index.ensures a.s.now stands.kept_for);
    }
