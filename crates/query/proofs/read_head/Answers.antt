use Rattle.rows.proofs.Kit.{◌≡◌, false, arith, ap}
use Rattle.igvm_defs.{specs.Refusals.is_fault, proofs.RefusalLaws.no_fault_lem}
use Rattle.sheet.{specs.Head.{limits, start_fault}, specs.declared.SheetHead.SheetHead, proofs.Readable.{start_says, started_bounds}}
use Rattle.query.proofs.QueryLaws.{start_stops}
use Rattle.query.proofs.read_head.Goals as goal

pub returns-in-Ok : goal.returns-in-Ok
returns-in-Ok c =
    let (none, e) = c.in-Ok.ensures in
    let started : is_fault (start_fault limits c.args.s.now) ≡ false = rw none no_fault_lem in
    let few = (started_bounds _ ((start_says limits _).0 started)).initializations in
    let same = ap (λ (y : SheetHead). y.initializations) e in
    (started, e, omega arith)

pub returns-in-Err : goal.returns-in-Err
returns-in-Err c = λ given. start_stops c.args.s.now given _ _ c.in_row.ensures c.in-Err.ensures.0 c.in-Err.ensures.1
