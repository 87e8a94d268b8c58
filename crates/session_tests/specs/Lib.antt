pub mod RefusingStoreLaws
