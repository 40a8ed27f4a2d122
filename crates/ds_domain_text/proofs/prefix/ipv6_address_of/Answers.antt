use Rattle.ds_domain_text.proofs.AddressLemmas.{says, says_nothing}
use Rattle.ds_domain_text.proofs.prefix.ipv6_address_of.Goals as goal

pub returns-in-Ok : goal.returns-in-Ok
returns-in-Ok c = says c.args.text.now c.in-Ok.address c.to_bits.result c.in-Ok.ensures c.to_bits.ensures

pub returns-in-Err : goal.returns-in-Err
returns-in-Err c = says_nothing c.args.text.now c.in-Err.ensures
