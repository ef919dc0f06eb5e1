use Rattle.records.specs.Forms.{form_number}
use Rattle.storeys.proofs.GoodStoreys.{given-good}
use Rattle.storeys.proofs.good_storeys.GoodStoreysIterator.next.Goals as goal

pub invariant_of-result : goal.invariant_of-result
invariant_of-result c =
    let s = c.args.self.now in
    let good = given-good (form_number s.form) s.rows c.next.new.self (c.in_ok-storey.storey, c.in_ok-storey.members) c.in_ok-storey.ensures.steps s.good in
    record { good = good.0; rows = good.1 }
